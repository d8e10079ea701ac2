use Rattle.std.proofs.Common.{◌+◌, cond}
use Rattle.std.specs.Io.Iter.{pieces_left_to_read}
use Rattle.std.specs.Option.{is_some}
use Rattle.depot.proofs.run.Given as goal

-- each order is a line that was read, and without one the loop is over
abbrev pub decreases-loop-next : goal.decreases-loop-next
decreases-loop-next l = cond (is_some l.next) (pieces_left_to_read l.lines + 1) 0
