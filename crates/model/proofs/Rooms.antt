-- The free blocks, and the log that takes the next record.
use Rattle.std.proofs.Common.{◌≡◌, ℕ, zero, suc, ◌+◌, ◌-◌, ◌*◌, ◌<◌, ◌≤◌, Bool, true, false, ◌⊎◌, sym, refl, ap, inl, inr, mod-eq_of_lt, ⊎_elim, arith}
use native.Mathlib.Nat.{mod_self}
use Rattle.std.proofs.lemmas.Bool.{cases_eq, cases_lt, leb-false, lt-leb, eq-eqb, ne_eqb, cond_both}
use Rattle.model.specs.Store.{Warm}
use Rattle.model.specs.Room.{sum_logs, free_in, free, is_full, next_log, seek, home_in, home, filled_next, turn_next}
use Rattle.model.specs.Consistent.{TurnIsLog}

next_below : (n d : ℕ) → d < n → next_log n d ≡ suc d
next_below n d l = ap suc (mod-eq_of_lt l)

next_last : (n d : ℕ) → d ≡ n → next_log n d ≡ 1
next_last n d e = rw (e, mod_self n)

pub next_range : (n d : ℕ) → 1 ≤ d → d ≤ n → (1 ≤ next_log n d) × (next_log n d ≤ n)
next_range n d h k = ⊎_elim (λ (e : d ≡ n). rw (next_last n d e) (omega arith, omega arith)) (λ e. rw (next_below n d (omega arith)) (omega arith, omega arith)) (cases_eq d n)

pub seek_range : (full : ℕ → Bool) (n k d : ℕ) → 1 ≤ d → d ≤ n → (1 ≤ seek full n k d) × (seek full n k d ≤ n)
seek_range full n zero d h l = (h, l)
seek_range full n (suc k) d h l =
    let r = next_range n d h l in
    cond_both (full d) _ _ (λ e. (1 ≤ e) × (e ≤ n)) (λ t. seek_range full n k (next_log n d) r.0 r.1) (λ t. (h, l))

-- the log e is among d and the k - 1 after it, going round
abbrev Near : ℕ → ℕ → ℕ → ℕ → Type 0
Near n d e k = ((d ≤ e) × (e < d + k)) ⊎ ((e < d) × (e + n < d + k))

-- where a log that is not full is near, the one that is found is not full
seek_finds : (full : ℕ → Bool) (n e : ℕ) → full e ≡ false → 1 ≤ e → e ≤ n → (k d : ℕ) → 1 ≤ d → d ≤ n → Near n d e k → full (seek full n k d) ≡ false
seek_finds full n e g a b zero d h l (inl q) = absurd (omega (arith, q.0, q.1))
seek_finds full n e g a b zero d h l (inr q) = absurd (omega (arith, q.0, q.1))
seek_finds full n e g a b (suc k) d h l q =
    let r = next_range n d h l in
    cond_both (full d) _ _ (λ x. full x ≡ false) (λ t. seek_finds full n e g a b k (next_log n d) r.0 r.1 (near t q)) (λ t. t)
  where
    near : full d ≡ true → Near n d e (suc k) → Near n (next_log n d) e k
    near t q = grind (arith, next_below n d, next_last n d)

some_room : (f : ℕ → ℕ) (n : ℕ) → 1 ≤ sum_logs f n → (e : ℕ) × (1 ≤ e) × (e ≤ n) × (1 ≤ f e)
some_room f zero h = absurd (omega arith)
some_room f (suc n) h = ⊎_elim
    (λ (k : 0 < f (suc n)). (suc n, omega arith, omega arith, k))
    (λ (k : f (suc n) ≤ 0). let w = some_room f n (omega arith) in (w.0, w.1, omega (arith, w.2), w.3))
    (cases_lt 0 (f (suc n)))

-- sums of what is equal are equal
sum_same : (f g : ℕ → ℕ) (n : ℕ) → ((d : ℕ) → d ≤ n → g d ≡ f d) → sum_logs g n ≡ sum_logs f n
sum_same f g zero h = refl
sum_same f g (suc n) h = rw (sum_same f g n (λ d l. h d (omega arith)), h (suc n) (omega arith))

-- one block less on one log
one_less : (f g : ℕ → ℕ) (n h : ℕ) → 1 ≤ h → h ≤ n → f h ≡ suc (g h) → ((d : ℕ) → (d ≡ h → ⊥) → g d ≡ f d) → sum_logs f n ≡ suc (sum_logs g n)
one_less f g zero h a b e o = absurd (omega arith)
one_less f g (suc n) h a b e o = ⊎_elim
    (λ (q : h ≡ suc n). let p = sum_same f g n (λ d l. o d (λ z. omega arith)) in let x = rw q at e in omega arith)
    (λ (q : h ≡ suc n → ⊥). let p = one_less f g n h a (omega arith) e o in let x = o (suc n) (λ z. q (sym z)) in omega arith)
    (cases_eq h (suc n))

pub sum_upto : (f g : ℕ → ℕ) (n : ℕ) → ((d : ℕ) → f d ≤ g d) → sum_logs f n ≤ sum_logs g n
sum_upto f g zero h = omega arith
sum_upto f g (suc n) h = let a = sum_upto f g n h in let b = h (suc n) in omega arith

pub sum_most : (f : ℕ → ℕ) (n : ℕ) → ((d : ℕ) → d < n → f (suc d) ≤ 1024) → sum_logs f n ≤ 1024 * n
sum_most f zero h = omega arith
sum_most f (suc n) h = let a = sum_most f n (λ d l. h d (omega arith)) in let b = h n (omega arith) in omega arith

module _ (w : Warm) (turn : TurnIsLog w) where
  pub home_range : (1 ≤ home w) × (home w ≤ w.shape.logs)
  unfolding home_in
  home_range = seek_range (is_full w.shape w.filled) w.shape.logs w.shape.logs w.turn turn.0 turn.1

  pub turn_range : (1 ≤ turn_next w) × (turn_next w ≤ w.shape.logs)
  turn_range = next_range w.shape.logs (home w) home_range.0 home_range.1

  module _ (some : 1 ≤ free w) where
    pub home_room : w.filled (home w) < w.shape.blocks (home w)
    unfolding home_in free_in
    home_room =
        let s = some_room (λ d. w.shape.blocks d - w.filled d) w.shape.logs some in
        let e = s.0 in
        let x : is_full w.shape w.filled e ≡ false = lt-leb (w.shape.blocks e) (w.filled e) (omega (arith, s.3)) in
        let t = turn.0 in
        let near : Near w.shape.logs w.turn e w.shape.logs = grind (arith, s.1, s.2) in
        leb-false (w.shape.blocks (home w)) (w.filled (home w)) (seek_finds (is_full w.shape w.filled) w.shape.logs e x s.1 s.2 w.shape.logs w.turn turn.0 turn.1 near)

    pub filled_home : filled_next w (home w) ≡ suc (w.filled (home w))
    filled_home = rw (eq-eqb (home w) (home w) refl)

    pub filled_other : (d : ℕ) → (d ≡ home w → ⊥) → filled_next w d ≡ w.filled d
    filled_other d n = rw (ne_eqb d (home w) n)

    -- a record takes one free block
    pub free_less : free w ≡ suc (free_in w.shape (filled_next w))
    unfolding free_in
    free_less =
        let r = home_room in
        let q = filled_home in
        one_less (λ d. w.shape.blocks d - w.filled d) (λ d. w.shape.blocks d - filled_next w d) w.shape.logs (home w) home_range.0 home_range.1
        (omega arith) (λ d n. ap (λ (x : ℕ). w.shape.blocks d - x) (filled_other d n))
