use Rattle.table.proofs.Writing.{Flushing}
use Rattle.table.proofs.flush_logs.Given as goal

abbrev pub invariant-loop-drive : goal.invariant-loop-drive
invariant-loop-drive g l = let m = g.R.Rack.meaning in Flushing l.logs (m l.initial.rack) l.drive (m l.rack)
