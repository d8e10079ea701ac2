-- What stands in a block after a plan: a flush settles what was written, and what stands stays until the block is written again.
use Rattle.std.proofs.Common.{◌≡◌, ℕ, zero, suc, ◌+◌, ◌<◌, ◌≤◌, Bool, true, false, cond, ◌&&◌, eqb, List, [], ◌∷◌, ◌++◌, Some, Option, sym, refl, ap, ◌∙◌, ⊎_elim, arith}
use Rattle.std.proofs.lemmas.Bool.{eq-eqb, cases_eq}
use Rattle.std.proofs.lemmas.Bool.Decides.{nat_tests}
use Rattle.rack.specs.Meaning.{Block, Slot, Meaning, Alike, Early, Settles, Stands, newest, last_or, calm, flushed}
use Rattle.strokes.specs.declared.Stroke.{Stroke}
use Rattle.strokes.specs.declared.Stroke.TheVariants.{Write, Flush}
use Rattle.strokes.specs.Plan.{Strokes, shows, run}
use Rattle.rack.proofs.Settling.{alike_refl, alike_trans}
use Rattle.strokes.proofs.Playing.{alike_stroke}

-- the plan in two parts
pub strokes_split : (xs ys : List Stroke) (m n : Meaning) → Strokes (xs ++ ys) m n → (k : Meaning) × Strokes xs m k × Strokes ys k n
unfolding Strokes
strokes_split [] ys m n y = (m, refl, y)
strokes_split (x ∷ xs) ys m n y = let w = strokes_split xs ys y.0 n y.2 in (w.0, (y.0, y.1, w.1), w.2)

pub alike_strokes : (xs : List Stroke) (m n : Meaning) → Strokes xs m n → Alike m n
unfolding Strokes
alike_strokes [] m n y = rw y (alike_refl m)
alike_strokes (x ∷ xs) m n y = alike_trans m y.0 n (alike_stroke x m y.0 y.1) (alike_strokes xs y.0 n y.2)

-- no stroke of the list writes this block
unfoldable pub Elsewhere : List Stroke → ℕ → ℕ → Type 0
Elsewhere [] d b = Unit {0}
Elsewhere (Write e k v ∷ ss) d b = (e ≡ d → k ≡ b → ⊥) × Elsewhere ss d b
Elsewhere (Flush e ∷ ss) d b = Elsewhere ss d b

pub elsewhere_append : (xs ys : List Stroke) (d b : ℕ) → Elsewhere xs d b → Elsewhere ys d b → Elsewhere (xs ++ ys) d b
unfolding Elsewhere
elsewhere_append [] ys d b p q = q
elsewhere_append (Write e k v ∷ xs) ys d b p q = (p.0, elsewhere_append xs ys d b p.1 q)
elsewhere_append (Flush e ∷ xs) ys d b p q = elsewhere_append xs ys d b p q

other_test : (d b e k : ℕ) → (e ≡ d → k ≡ b → ⊥) → (eqb d e && eqb b k) ≡ false
other_test d b e k p = grind (arith, nat_tests)

-- a list that is joined to nothing is nothing
parts_none : (xs ys : List Block) → xs ++ ys ≡ [] → (xs ≡ []) × (ys ≡ [])
parts_none [] ys e = (refl, e)
parts_none (x ∷ xs) ys e = absurd cc

-- nothing is left to settle early in a block that stands
stays : (s t : Slot) (v : Block) → Settles s t → s.settled ≡ Some v → s.pending ≡ [] → (t.settled ≡ Some v) × (t.pending ≡ [])
stays s t v e p q =
    let w = parts_none e.gone t.pending (sym e.parts ∙ q) in
    (rw (e.stands, w.0) p, w.1)

-- a flush settles what is read
pub flush_stands : (m k : Meaning) (d b : ℕ) (v : Block) → d < m.count → b < m.size d → Early (flushed m d) k → newest (m.slot d b) ≡ Some v → Stands k d b v
flush_stands m k d b v h g e p =
    let calmed : Settles (calm (m.slot d b)) (k.slot d b) = rw (eq-eqb d d refl) at (e.slot d b h g) in
    let w = stays (calm (m.slot d b)) (k.slot d b) v calmed p refl in
    record { settled = w.0; nothing_pending = w.1 }

calm_stands : (t : Bool) (s : Slot) (v : Block) → s.settled ≡ Some v → s.pending ≡ [] → ((cond t (calm s) s).settled ≡ Some v) × ((cond t (calm s) s).pending ≡ [])
calm_stands true s v p q = (ap (last_or s.settled) q ∙ p, refl)
calm_stands false s v p q = (p, q)

-- what stands stays where the plan writes elsewhere
pub strokes_stand : (ss : List Stroke) (m n : Meaning) (d b : ℕ) (v : Block) → d < m.count → b < m.size d → Elsewhere ss d b → Strokes ss m n → Stands m d b v → Stands n d b v
unfolding Strokes Elsewhere
strokes_stand [] m n d b v h g p y s = rw y s
strokes_stand (Write e j w ∷ ss) m n d b v h g p y s =
    let k = y.0 in
    let a = alike_stroke (Write e j w) m k y.1 in
    let t = stays (m.slot d b) (k.slot d b) v (rw (other_test d b e j p.0) at (y.1.slot d b h g)) s.settled s.nothing_pending in
    strokes_stand ss k n d b v (rw a.count h) (rw (a.size d) g) p.1 y.2 (record { settled = t.0; nothing_pending = t.1 })
strokes_stand (Flush e ∷ ss) m n d b v h g p y s =
    let k = y.0 in
    let a = alike_stroke (Flush e) m k y.1 in
    let c = calm_stands (eqb d e) (m.slot d b) v s.settled s.nothing_pending in
    let t = stays (cond (eqb d e) (calm (m.slot d b)) (m.slot d b)) (k.slot d b) v (y.1.slot d b h g) c.0 c.1 in
    strokes_stand ss k n d b v (rw a.count h) (rw (a.size d) g) p y.2 (record { settled = t.0; nothing_pending = t.1 })

pub shows_elsewhere : (ss : List Stroke) (d b : ℕ) (o : Option Block) → Elsewhere ss d b → shows ss d b o ≡ o
unfolding shows Elsewhere
shows_elsewhere [] d b o p = refl
shows_elsewhere (Write e k v ∷ ss) d b o p = rw (other_test d b e k p.0) (shows_elsewhere ss d b o p.1)
shows_elsewhere (Flush e ∷ ss) d b o p = shows_elsewhere ss d b o p

-- a run writes each of its blocks, and no other
pub run_off_drive : (e b₀ n : ℕ) (v : Block) (d b : ℕ) → (e ≡ d → ⊥) → Elsewhere (run e b₀ n v) d b
unfolding run Elsewhere
run_off_drive e b₀ zero v d b h = tt
run_off_drive e b₀ (suc n) v d b h = ((λ x y. h x), run_off_drive e (suc b₀) n v d b h)

pub run_above : (e b₀ n : ℕ) (v : Block) (d b : ℕ) → b < b₀ → Elsewhere (run e b₀ n v) d b
unfolding run Elsewhere
run_above e b₀ zero v d b h = tt
run_above e b₀ (suc n) v d b h = ((λ x y. omega arith), run_above e (suc b₀) n v d b (omega arith))

pub shows_run : (d b₀ n : ℕ) (v : Block) (b : ℕ) (o : Option Block) → b₀ ≤ b → b < b₀ + n → shows (run d b₀ n v) d b o ≡ Some v
unfolding run shows
shows_run d b₀ zero v b o h g = absurd (omega arith)
shows_run d b₀ (suc n) v b o h g = ⊎_elim
    (λ (e : b ≡ b₀). let t : (eqb d d && eqb b b₀) ≡ true = grind (arith, nat_tests) in rw (t, shows) (shows_elsewhere (run d (suc b₀) n v) d b (Some v) (run_above d (suc b₀) n v d b (omega arith))))
    (λ (e : b ≡ b₀ → ⊥). shows_run d (suc b₀) n v b _ (omega arith) (omega arith))
    (cases_eq b b₀)
