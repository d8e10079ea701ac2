-- Writes of one value to a run of blocks.
use Rattle.std.proofs.Common.{◌≡◌, ℕ, zero, suc, ◌+◌, ◌-◌, ◌<◌, ◌≤◌, [], ◌∷◌, length, refl, ap, add-one, arith}
use Rattle.std.proofs.lemmas.Bool.{lt-ltb, eq-eqb}
use Rattle.std.specs.declared.ops.Range.{Range}
use Rattle.rack.specs.Meaning.{Block, Meaning}
use Rattle.strokes.specs.declared.Stroke.TheVariants.{Write}
use Rattle.strokes.specs.Plan.{run, Placed}

-- the run of the blocks that a range has left, when the range gives its next one, and when it has none
pub run_next : (d : ℕ) (from to : Range ℕ) (b : ℕ) (v : Block) → to.end ≡ from.end → 0 < from.end - from.start → b ≡ from.start → to.start ≡ from.start + 1 →
    run d from.start (from.end - from.start) v ≡ Write d b v ∷ run d to.start (to.end - to.start) v
unfolding run
run_next d from to b v e h p q =
    let left : from.end - from.start ≡ suc (from.end - (from.start + 1)) = omega arith in
    rw (left, e, p, q, add-one)

pub run_none : (d : ℕ) (from : Range ℕ) (v : Block) → from.end - from.start ≡ 0 → run d from.start (from.end - from.start) v ≡ []
unfolding run
run_none d from v h = rw h

pub length_run : (d b n : ℕ) (v : Block) → length (run d b n v) ≡ n
unfolding run
length_run d b zero v = refl
length_run d b (suc n) v = ap suc (length_run d (suc b) n v)

pub placed_run : (d b n : ℕ) (v : Block) (m : Meaning) → length v ≡ 512 → d < m.count → b + n ≤ m.size d → Placed (run d b n v) m
unfolding Placed run
placed_run d b zero v m l h k = tt
placed_run d b (suc n) v m l h k = (rw (eq-eqb (length v) 512 l, lt-ltb d m.count h, lt-ltb b (m.size d) (omega arith)), placed_run d (suc b) n v m l h (omega arith))
