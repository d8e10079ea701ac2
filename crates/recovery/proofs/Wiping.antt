-- The wipes that are left when a loop has come to drive d, and those of a rack that has the same shape.
use Rattle.std.proofs.Common.{◌≡◌, ℕ, zero, suc, ◌+◌, ◌-◌, ◌<◌, ◌≤◌, List, [], ◌++◌, refl, sym, ◌∙◌, ap, ap₂, add-one, arith}
use Rattle.std.proofs.lemmas.Bool.{lt-ltb}
use Rattle.rack.specs.Meaning.{Meaning, Alike}
use Rattle.strokes.specs.declared.Stroke.{Stroke}
use Rattle.strokes.specs.Plan.{settled_run}
use Rattle.block.specs.Bytes.{zeros}
use Rattle.model.specs.Store.{Shape, shape_of}
use Rattle.model.specs.Format.{wipe, wipes}

pub wipes_more : (blocks : ℕ → ℕ) (d end : ℕ) → d < end → wipes blocks d (end - d) ≡ wipe blocks d ++ wipes blocks (d + 1) (end - (d + 1))
unfolding wipes
wipes_more blocks d end h = let e : end - d ≡ suc (end - (d + 1)) = omega arith in rw (e, add-one)

pub wipes_all : (blocks : ℕ → ℕ) (d end : ℕ) → end ≤ d → wipes blocks d (end - d) ≡ []
unfolding wipes
wipes_all blocks d end h = let e : end - d ≡ 0 = omega arith in rw e

-- the wipes hang only on the sizes of the drives that they wipe
wipes_same : (f g : ℕ → ℕ) (d n : ℕ) → ((e : ℕ) → d ≤ e → e < d + n → f e ≡ g e) → wipes f d n ≡ wipes g d n
unfolding wipes
wipes_same f g d zero h = refl
wipes_same f g d (suc n) h =
    ap₂ (λ (k : ℕ) (ss : List Stroke). settled_run d 0 k (zeros 512) ++ ss) (h d (omega arith) (omega arith)) (wipes_same f g (suc d) n (λ e p q. h e (omega arith) (omega arith)))

-- those of a rack that is like the one whose shape it is
pub wipes_shape : (z : Shape) (m k : Meaning) → z ≡ shape_of z.pages m → Alike m k → wipes k.size 1 (k.count - 1) ≡ wipes z.blocks 1 z.logs
wipes_shape z m k same a =
    (λ i. wipes (λ d. a.size d i) 1 (a.count i - 1))
    ∙ wipes_same m.size (shape_of z.pages m).blocks 1 (m.count - 1) (λ e p q. rw (lt-ltb e m.count (omega arith)) refl)
    ∙ sym (ap (λ (s : Shape). wipes s.blocks 1 s.logs) same)
