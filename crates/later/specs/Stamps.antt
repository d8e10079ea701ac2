-- The order of marks.
--
--   stamp_fields s    the fields of the stamp s, in the order in which they count
--   mark_upto m n     the mark m is no later than the mark n
use Rattle.std.specs.Prelude.{ℕ, Bool, List, [], ◌∷◌, nat_le}
use Rattle.later.specs.declared.Stamp.{Stamp}
use Rattle.later.specs.declared.Stamp.TheVariants.{Drive, Before, After}
use Rattle.later.specs.declared.Mark.{Mark}
use Rattle.later.specs.Order.{by_fields}

-- first the class: 0 for the drive's own byte, 1 for a before byte, 2 for an after byte
abbrev pub stamp_fields : Stamp → List ℕ
stamp_fields Drive = 0 ∷ []
stamp_fields (Before p) = 1 ∷ p.drive ∷ p.block ∷ []
stamp_fields (After commit set step p) = 2 ∷ commit ∷ set ∷ step ∷ p.drive ∷ p.block ∷ []

-- the mark with the larger stamp is the later; changes in different blocks never have equal stamps, and that equal
-- stamps rank by the byte makes this a total order on all marks
abbrev pub mark_upto : Mark → Mark → Bool
mark_upto m n = by_fields (stamp_fields m.stamp) (stamp_fields n.stamp) (nat_le m.byte n.byte)
