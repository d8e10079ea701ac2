-- The used blocks that the code counts, as the model has them.
--
--   used_in s d    how many blocks of drive d are used in this round, as s counts them
use Rattle.std.specs.Prelude.{ℕ, slice_index}
use Rattle.log_space.specs.declared.LogSpace.{LogSpace}

-- a drive that is not counted has no block used
abbrev pub used_in : LogSpace → ℕ → ℕ
used_in s d = slice_index s.filled d
