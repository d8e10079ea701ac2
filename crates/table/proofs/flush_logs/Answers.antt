use Rattle.std.proofs.Common.{◌+◌, arith}
use Rattle.std.proofs.lemmas.Result.{err_from_is_err_and}
use Rattle.table.proofs.Writing.{flushing_more, flushing_stops, flushing_all}
use Rattle.table.proofs.flush_logs.Goals as goal

pub loop-drive-preserved : goal.loop-drive-preserved
loop-drive-preserved g c =
    let told = c.in_ok-flush.ensures in
    flushing_more c.args.logs _ _ _ _ c.loop-drive-test.true c.loop-drive.invariant told.answers told.leaves

pub returns : goal.returns
returns g c = flushing_all _ _ c.loop-drive.drive _ c.loop-drive-test.false c.loop-drive.invariant

-- after the last log
pub returns-in_ok-flush : goal.returns-in_ok-flush
returns-in_ok-flush g c =
    let told = c.in_ok-flush.ensures in
    flushing_all c.args.logs _ (c.loop-drive.drive + 1) _ (omega arith)
    (flushing_more c.args.logs _ c.loop-drive.drive _ _ c.loop-drive-test.true c.loop-drive.invariant told.answers told.leaves)

pub returns-in_err-flush : goal.returns-in_err-flush
returns-in_err-flush g c =
    let told = c.in_err-flush.ensures in
    let p = err_from_is_err_and c.from_residual.result c.from_residual.ensures.1 in
    rw (p.1, p.2) (flushing_stops c.args.logs _ c.loop-drive.drive _ _ _ c.loop-drive-test.true c.loop-drive.invariant told.answers told.leaves)
