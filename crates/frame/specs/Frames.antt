-- The shape that a frame keeps.
--
--   shape_in f       the shape that the frame f keeps
--   Framed z r       r is a frame of the shape z where a store can have that shape, else nothing
--   blocks_on m d    the blocks of drive d of the rack m, 0 where there is no such drive
use Rattle.std.specs.Prelude.{◌≡◌, ℕ, true, false, cond, Some, None, Option, nat_lt}
use Rattle.rack.specs.Meaning.{Meaning}
use Rattle.model.specs.Store.{Shape, legal}
use Rattle.frame.specs.declared.Frame.{Frame}
use Rattle.frame.specs.Shapes.{shape_with}

abbrev pub shape_in : Frame → Shape
shape_in f = shape_with f.pages f.logs f.sizes

-- so there is a frame exactly where the shape is legal
abbrev pub Framed : Shape → Option Frame → Type 0
Framed z (Some f) = (legal z ≡ true) × (shape_in f ≡ z)
Framed z None = legal z ≡ false

-- as the shape of a store on the rack has them
abbrev pub blocks_on : Meaning → ℕ → ℕ
blocks_on m d = cond (nat_lt d m.count) (m.size d) 0
