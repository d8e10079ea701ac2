use Rattle.std.proofs.Common.{◌≤◌}
use Rattle.std.specs.Io.Iter.{pieces_left_to_read}
use Rattle.depot.proofs.serve.Given as goal

abbrev pub invariant-loop-line : goal.invariant-loop-line
invariant-loop-line g l =
    (goal.iterator-loop-line g).can_next l.lines × (goal.iterator-loop-line g).is_finite l.lines × (pieces_left_to_read l.lines ≤ pieces_left_to_read l.initial.lines)
