use Rattle.std.proofs.Common.{arith}
use Rattle.model.specs.Room.{home_in}
use Rattle.log_space.proofs.Seeking.{seek_stops, seek_more, seek_all}
use Rattle.log_space.proofs.LogSpace.home.Goals as goal

pub returns-then-not-is_full : goal.returns-then-not-is_full
unfolding home_in
returns-then-not-is_full c = seek_stops _ c.args.frame.now.logs c.loop-tried._tried _ _ c.loop-tried.invariant (omega arith) c.if-not-is_full.ensures

pub loop-tried-preserved : goal.loop-tried-preserved
loop-tried-preserved c = rw c.next_log-drive.ensures (seek_more _ c.args.frame.now.logs c.loop-tried._tried _ _ c.loop-tried.invariant (omega arith) c.if-not-is_full.ensures)

pub returns : goal.returns
unfolding home_in
returns c = seek_all _ c.args.frame.now.logs c.loop-tried._tried _ _ c.loop-tried.invariant (omega arith)
