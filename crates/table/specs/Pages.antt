-- Pages that are chosen to be written.
--
--   is_chosen s p    page p is chosen by s, a flag for each page
use Rattle.std.specs.Prelude.{ℕ, Bool, false, List, slice_index_or}

abbrev pub is_chosen : List Bool → ℕ → Bool
is_chosen s p = slice_index_or s p false
