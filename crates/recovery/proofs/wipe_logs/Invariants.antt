use Rattle.std.proofs.Common.{◌-◌}
use Rattle.model.specs.Format.{wipes}
use Rattle.strokes.proofs.Playing.{Onto}
use Rattle.recovery.proofs.wipe_logs.Given as goal

abbrev pub invariant-loop-drive : goal.invariant-loop-drive
invariant-loop-drive g l =
    let m = g.R.Rack.meaning l.initial.rack in
    Onto (wipes m.size 1 (m.count - 1)) m (wipes m.size l.drive (m.count - l.drive)) (g.R.Rack.meaning l.rack)
