use Rattle.std.proofs.Common.{◌≡◌, ◌-◌, ◌*◌, ◌≤◌}
use Rattle.model.specs.Room.{sum_logs}
use Rattle.frame.specs.Frames.{shape_in}
use Rattle.log_space.specs.Views.{used_in}
use Rattle.log_space.proofs.LogSpace.free.Given as goal

-- the logs so far are summed, and no drive has more blocks than its count can say
abbrev pub invariant-loop-log : goal.invariant-loop-log
invariant-loop-log l = (l.free ≡ sum_logs (λ d. (shape_in l.frame).blocks d - used_in l.self d) l.log) × (l.free ≤ 65535 * l.log)
