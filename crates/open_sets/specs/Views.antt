-- The open sets of the code, as the model has them.
--
--   set_in s         the open set s
--   sets_in o        the open sets that o keeps, in their order
use Rattle.std.specs.Prelude.{List, map, take}
use Rattle.drive_set.specs.Sets.{holds}
use Rattle.model.specs.Store as store
use Rattle.open_sets.specs.declared.OpenSet.{OpenSet}
use Rattle.open_sets.specs.declared.OpenSets.{OpenSets}

abbrev pub set_in : OpenSet → store.OpenSet
set_in s = record { number = s.number; steps = s.steps; uses = holds s.uses }

abbrev pub sets_in : OpenSets → List store.OpenSet
sets_in o = map set_in (take o.count o.sets)
