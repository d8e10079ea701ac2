-- Plans: lists of strokes, and what it means that a rack makes them.
--
--   effect s m             what the stroke s makes of the rack m, before values settle early
--   fault s m              why the rack m refuses the stroke s, if it does
--   Strokes ss m n         all strokes of the list are made, in order, from the rack m to the rack n
--   Plays plan m r n       the plan is played from m on and leaves n: r is None where it came to its end, and else
--                          the fault of the first stroke that was refused
--   Placed plan m          every stroke of the plan has its place on the rack m
--   Done plan m r n        as many strokes of the plan are made as are left, exactly; r says whether that was all of it
--   run d b n v            writes of v to the n blocks of drive d from block b on, rising
--   settled_run d b n v    the same, and then a flush of the drive
--   shows ss d b o         what a read of block b of drive d gives after the strokes, where it gave o before
use Rattle.std.specs.Prelude.{◌≡◌, ℕ, zero, suc, Bool, true, cond, ◌&&◌, List, [], ◌∷◌, ◌++◌, length, take, Some, None, Option, MatchOption, ◌==◌, nat_le, nat_lt}
use Rattle.rack.specs.declared.RackFault.{RackFault}
use Rattle.rack.specs.declared.RackFault.TheVariants.{NoStroke}
use Rattle.rack.specs.Meaning.{Block, Meaning, Early, written, flushed}
use Rattle.rack.specs.Answers.{write_fault, flush_fault, within}
use Rattle.strokes.specs.declared.Stroke.{Stroke}
use Rattle.strokes.specs.declared.Stroke.TheVariants.{Write, Flush}

abbrev pub effect : Stroke → Meaning → Meaning
effect (Write d b v) m = written m d b v
effect (Flush d) m = flushed m d

abbrev pub fault : Stroke → Meaning → Option RackFault
fault (Write d b v) m = write_fault m d b (length v)
fault (Flush d) m = flush_fault m d

-- between two strokes values may settle early
unfoldable pub Strokes : List Stroke → Meaning → Meaning → Type 0
Strokes [] m n = n ≡ m
Strokes (s ∷ ss) m n = (k : Meaning) × Early (effect s m) k × Strokes ss k n

unfoldable pub Plays : List Stroke → Meaning → Option RackFault → Meaning → Type 0
Plays [] m r n = (r ≡ None) × (n ≡ m)
Plays (s ∷ ss) m r n = MatchOption (fault s m) ((k : Meaning) × Early (effect s m) k × Plays ss k r n) (λ f. (r ≡ Some f) × (n ≡ m))

-- a block of 512 bytes for a block that there is; a flush of a drive that there is
abbrev pub placed : Stroke → Meaning → Bool
placed (Write d b v) m = length v == 512 && within m d b
placed (Flush d) m = nat_lt d m.count

unfoldable pub Placed : List Stroke → Meaning → Type 0
Placed [] m = Unit {0}
Placed (s ∷ ss) m = (placed s m ≡ true) × Placed ss m

pub record Done (plan : List Stroke) (m : Meaning) (r : Option RackFault) (n : Meaning) : Type 0 where
  pub answers : r ≡ cond (nat_le (length plan) m.left) None (Some NoStroke)
  pub leaves : Strokes (take m.left plan) m n

unfoldable pub run : ℕ → ℕ → ℕ → Block → List Stroke
run d b zero v = []
run d b (suc n) v = Write d b v ∷ run d (suc b) n v

abbrev pub settled_run : ℕ → ℕ → ℕ → Block → List Stroke
settled_run d b n v = run d b n v ++ (Flush d ∷ [])

-- a write shows in its own block, and a flush shows nowhere
abbrev pub put_at : Stroke → ℕ → ℕ → Option Block → Option Block
put_at (Write e k v) d b o = cond (d == e && b == k) (Some v) o
put_at (Flush e) d b o = o

unfoldable pub shows : List Stroke → ℕ → ℕ → Option Block → Option Block
shows [] d b o = o
shows (s ∷ ss) d b o = shows ss d b (put_at s d b o)
