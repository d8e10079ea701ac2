use Rattle.std.proofs.Common.{◌≡◌, ◌+◌, drop}
use Rattle.later.specs.Keeping.{kept_all}
use Rattle.later.specs.Stamps.{mark_upto}
use Rattle.model.specs.Logs.{stamped}
use Rattle.logs.proofs.offers.apply_run.Given as goal

-- what is left of the run gives what the whole run gave at first
abbrev pub invariant-loop-i : goal.invariant-loop-i
invariant-loop-i l = kept_all mark_upto l.marks (stamped l.stamp (l.at + l.i) (drop l.i l.bytes)) ≡ kept_all mark_upto l.initial.marks (stamped l.stamp l.at l.bytes)
