-- Every call leaves a warm store consistent.
use Rattle.std.proofs.Common.{◌≡◌, ℕ, suc, ◌-◌, ◌<◌, ◌≤◌, true, false, ◌||◌, eqb, leb, List, length, None, sym, refl, ◌∙◌, ⊎_elim, zero-add, arith}
use Rattle.std.proofs.lemmas.Bool.{both_ways, cases_eq, eqb-true, eqb-false, le-leb, or_right, cond_both}
use Rattle.std.proofs.lemmas.Bool.Decides.{nat_tests}
use Rattle.rack.specs.Meaning.{Meaning}
use Rattle.change.specs.declared.runs.Pair.{Pair}
use Rattle.change.specs.Pairs.{well_paired, total}
use Rattle.change.proofs.Overlays.{length_overlaid}
use Rattle.model.specs.Store.{Shape, Page, Warm, legal, fits}
use Rattle.model.specs.Sets.{is_open, set_of, without, stepping}
use Rattle.model.specs.Room.{free_in, free, home, filled_next}
use Rattle.model.specs.Rounds.{rested}
use Rattle.model.specs.Warming.{spoil, with_begun, begin_fault, held_by_other, with_change, change_fault, committed_by, with_commit, without_set, is_idle}
use Rattle.model.specs.Consistent.{Consistent}
use Rattle.model.proofs.Rooms.{sum_upto, turn_range, home_room, free_less}
use Rattle.model.proofs.OpenSets.{begun_steps, begun_open, length_begun, stepped_open, length_stepped, stepped_most, stepped_own, ended_other, ended_steps, ended_open, length_ended}

-- who holds a page has a step, or nobody holds it
abbrev Held : ℕ → ℕ → Type 0
Held holder steps = (eqb holder 0 || leb 1 steps) ≡ true

held_more : (h a b : ℕ) → a ≤ b → Held h a → Held h b
held_more h a b l e = grind (arith, nat_tests)

-- THE START OF A ROUND

pub rested_consistent : (z : Shape) (ρ : ℕ) (c : ℕ → List ℕ) → legal z ≡ true → 1 ≤ z.logs → ρ ≤ 4294967295 → ((p : ℕ) → p < z.pages → length (c p) ≡ 240) → Consistent (rested z ρ c)
unfolding free_in
rested_consistent z ρ c l some fits sized =
    (l, λ d. omega arith, (omega arith, some), omega arith, (omega arith, omega arith), λ s e. absurd (both_ways false refl e), λ s. rw zero-add (sum_upto (λ d. z.blocks d - 0) z.blocks z.logs (λ d. omega arith)), λ p. refl, λ p e. refl, fits, λ p h. (sized p h, sized p h))

pub spoil_consistent : (w : Warm) → Consistent w → Consistent (spoil w)
spoil_consistent w c = c

-- BEGIN

pub begin_consistent : (w : Warm) → Consistent w → begin_fault w ≡ None → Consistent (with_begun w)
begin_consistent w c e =
    let few : w.begun < 255 = grind (arith, nat_tests) in
    let room : suc (length w.sets) ≤ free w = grind (arith, nat_tests) in
    let l = length_begun w.sets (suc w.begun) in
    let n = c.4 in (
      c.0,
      c.1,
      c.2,
      omega arith,
      (omega (arith, n.0), omega arith),
      λ s o. ⊎_elim (λ t. let b = c.5 s t in (b.0, omega (arith, b.1))) (λ (t : suc w.begun ≡ s). (omega arith, omega arith)) (begun_open w.sets (suc w.begun) s o),
      λ s. rw (begun_steps w.sets (suc w.begun) s) (c.6 s),
      λ p. rw (begun_steps w.sets (suc w.begun) (w.page p).holder) (c.7 p),
      c.8,
      c.9,
      c.10,
    )

-- A RECORD

-- one more block is used on the log that takes it
module _ (w : Warm) (c : Consistent w) (some : 1 ≤ free w) where
  used_fits : (d : ℕ) → filled_next w d ≤ w.shape.blocks d
  used_fits d = let r = home_room w c.2 some in grind (arith, nat_tests, c.1 d)

-- CHANGE

-- what a change that is not refused has passed
pub record Passed (w : Warm) (s p : ℕ) (ps : List Pair) (k : ℕ) (m : Meaning) : Type 0 where
  pub open_set : is_open w.sets s ≡ true
  pub has_page : p < w.shape.pages
  pub paired : well_paired ps ≡ true
  pub whole : k ≡ total ps
  pub not_held : held_by_other s (w.page p) ≡ false
  pub room : suc (length w.sets) ≤ free w
  pub fitting : fits w.shape m ≡ true

pub change_passed : (w : Warm) (s p : ℕ) (ps : List Pair) (k : ℕ) (m : Meaning) → change_fault w s p ps k m ≡ None → Passed w s p ps k m
change_passed w s p ps k m e = record {
  open_set = grind (arith, nat_tests);
  has_page = grind (arith, nat_tests);
  paired = grind (arith, nat_tests);
  whole = grind (arith, nat_tests);
  not_held = grind (arith, nat_tests);
  room = grind (arith, nat_tests);
  fitting = grind (arith, nat_tests);
}

pub change_consistent : (w : Warm) (s p : ℕ) (ps : List Pair) (bs : List ℕ) (k : ℕ) (m : Meaning) → Consistent w → Passed w s p ps k m → Consistent (with_change w s p ps bs)
change_consistent w s p ps bs k m c y =
    let room = y.room in
    let some : 1 ≤ free w = omega arith in
    let less = free_less w c.2 some in
    let l = length_stepped w.sets s (home w) in
    let n = c.4 in (
      c.0,
      used_fits w c some,
      turn_range w c.2,
      omega arith,
      (omega (arith, n.0), n.1),
      λ t o. c.5 t (sym (stepped_open w.sets s (home w) t) ∙ o),
      λ t. let a = (stepped_most w.sets s (home w) t).1 in let b = c.6 t in omega arith,
      holders,
      rest,
      c.9,
      sized,
    )
  where
    self : 1 ≤ s
    self = (c.5 s y.open_set).0

    holders : (q : ℕ) → Held ((with_change w s p ps bs).page q).holder (set_of (stepping w.sets s (home w)) ((with_change w s p ps bs).page q).holder).steps
    holders q = cond_both (eqb q p) _ _ (λ (g : Page). Held g.holder (set_of (stepping w.sets s (home w)) g.holder).steps)
        (λ t. let a = stepped_own w.sets s (home w) y.open_set in or_right (eqb s 0) _ (le-leb 1 _ (omega arith)))
        (λ t. held_more (w.page q).holder _ _ (stepped_most w.sets s (home w) (w.page q).holder).0 (c.7 q))

    rest : (q : ℕ) → ((with_change w s p ps bs).page q).holder ≡ 0 → ((with_change w s p ps bs).page q).working ≡ ((with_change w s p ps bs).page q).committed
    rest q = cond_both (eqb q p) _ _ (λ (g : Page). g.holder ≡ 0 → g.working ≡ g.committed) (λ t e. absurd (omega (arith, self))) (λ t. c.8 q)

    sized : (q : ℕ) → q < w.shape.pages → (length ((with_change w s p ps bs).page q).committed ≡ 240) × (length ((with_change w s p ps bs).page q).working ≡ 240)
    sized q h = cond_both (eqb q p) _ _ (λ (g : Page). (length g.committed ≡ 240) × (length g.working ≡ 240)) (λ t. ((c.10 q h).0, length_overlaid ps bs (w.page q).working)) (λ t. c.10 q h)

-- COMMIT

-- the pages of a set that ended are held by nobody
module _ (w : Warm) (s : ℕ) (c : Consistent w) where
  ended_holders : (q : ℕ) → Held (committed_by s (w.page q)).holder (set_of (without w.sets s) (committed_by s (w.page q)).holder).steps
  ended_holders q = cond_both (eqb (w.page q).holder s) _ _ (λ (g : Page). Held g.holder (set_of (without w.sets s) g.holder).steps)
      (λ t. refl) (λ t. rw (ended_other w.sets s (w.page q).holder (eqb-false (w.page q).holder s t)) (c.7 q))

  ended_rest : (q : ℕ) → (committed_by s (w.page q)).holder ≡ 0 → (committed_by s (w.page q)).working ≡ (committed_by s (w.page q)).committed
  ended_rest q = cond_both (eqb (w.page q).holder s) _ _ (λ (g : Page). g.holder ≡ 0 → g.working ≡ g.committed) (λ t e. refl) (λ t. c.8 q)

  ended_sized : (q : ℕ) → q < w.shape.pages → (length (committed_by s (w.page q)).committed ≡ 240) × (length (committed_by s (w.page q)).working ≡ 240)
  ended_sized q h = let n = (c.10 q h).1 in cond_both (eqb (w.page q).holder s) _ _ (λ (g : Page). (length g.committed ≡ 240) × (length g.working ≡ 240)) (λ t. (n, n)) (λ t. c.10 q h)

  pub commit_consistent : is_open w.sets s ≡ true → Consistent (with_commit w s)
  commit_consistent o =
      let l = length_ended w.sets s o in
      let n = c.4 in
      let room = c.3 in
      let some : 1 ≤ free w = omega arith in
      let less = free_less w c.2 some in (
        c.0,
        used_fits w c some,
        turn_range w c.2,
        omega arith,
        (omega (arith, n.0), n.1),
        λ t q. c.5 t (ended_open w.sets s t q),
        λ t. let a = ended_steps w.sets s t in let b = c.6 t in omega arith,
        ended_holders,
        ended_rest,
        c.9,
        ended_sized,
      )

  -- a set that made no change holds no page
  idle_holders : is_idle w s ≡ true → (q : ℕ) → Held (w.page q).holder (set_of (without w.sets s) (w.page q).holder).steps
  idle_holders i q = ⊎_elim
      (λ (e : (w.page q).holder ≡ s).
      let z : (set_of w.sets (w.page q).holder).steps ≡ 0 = rw e (eqb-true (set_of w.sets s).steps 0 i) in
      held_more (w.page q).holder (set_of w.sets (w.page q).holder).steps _ (omega arith) (c.7 q))
      (λ e. rw (ended_other w.sets s (w.page q).holder e) (c.7 q))
      (cases_eq (w.page q).holder s)

  pub end_consistent : is_open w.sets s ≡ true → is_idle w s ≡ true → Consistent (without_set w s)
  end_consistent o i =
      let l = length_ended w.sets s o in
      let n = c.4 in
      let room = c.3 in (
        c.0,
        c.1,
        c.2,
        omega arith,
        (omega (arith, n.0), n.1),
        λ t q. c.5 t (ended_open w.sets s t q),
        λ t. let a = ended_steps w.sets s t in let b = c.6 t in omega arith,
        idle_holders i,
        c.8,
        c.9,
        c.10,
      )
