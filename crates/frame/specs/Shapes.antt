-- The shape that a frame's numbers say.
--
--   shape_with pages logs sizes    the shape of so many pages and log drives, with these blocks on each drive
use Rattle.std.specs.Prelude.{ℕ, List, slice_index}
use Rattle.model.specs.Store.{Shape}

-- a drive that has no size here has no blocks
abbrev pub shape_with : ℕ → ℕ → List ℕ → Shape
shape_with pages logs sizes = record { pages = pages; logs = logs; blocks = λ d. slice_index sizes d }
