use Rattle.std.proofs.lemmas.List.Filters.{FiltersInPlace}
use Rattle.open_sets.proofs.Numbers.{is_other}
use Rattle.open_sets.proofs.OpenSets.end.Given as goal

abbrev pub invariant-loop-i : goal.invariant-loop-i
invariant-loop-i l = FiltersInPlace (is_other l.number) l.initial.self.sets l.self.sets l.kept l.i
