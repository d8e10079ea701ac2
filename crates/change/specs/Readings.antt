-- What a block reads as, where a change is looked for.
--
--   change_fine v    the change v may be written, as far as it stands in a block
--   change_in b      the content of the change whose block b is, if there is one
use Rattle.std.specs.Prelude.{ℕ, Bool, ◌&&◌, List, Option, nat_le}
use Rattle.block.specs.Readings.{read_as}
use Rattle.change.specs.Pairs.{well_paired}
use Rattle.change.specs.Changes.{Content, change_block, content_of}

-- pairs that can stand in a change, a set and a step of 1 or more
abbrev pub change_fine : Content → Bool
change_fine v = well_paired v.pairs && (nat_le 1 v.set && nat_le 1 v.step)

unfoldable pub change_in : List ℕ → Option Content
change_in b = read_as change_fine change_block content_of b
