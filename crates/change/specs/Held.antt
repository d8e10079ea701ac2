-- Pairs that are held.
--
--   listed held    the list of pairs that is held
use Rattle.std.specs.Prelude.{List, take}
use Rattle.change.specs.declared.runs.Pair.{Pair}
use Rattle.change.specs.declared.runs.Pairs.{Pairs}

abbrev pub listed : Pairs → List Pair
listed held = take held.count held.slots
