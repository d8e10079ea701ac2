use Rattle.std.proofs.lemmas.Result.{err_from_is_err_and}
use Rattle.table.proofs.Ending.{stops_logs, stops_writes, stops_flush, ends_head}
use Rattle.table.proofs.end_round.Goals as goal

pub returns : goal.returns
returns g c =
    let told = c.in_ok-flush.ensures in
    ends_head c.args.head _ _ _ _ c.in_ok-flush_logs.ensures _ c.in_ok-write_chosen.ensures _ _ _ told.answers told.leaves c.raise_head.ensures

pub returns-in_err-flush_logs : goal.returns-in_err-flush_logs
returns-in_err-flush_logs g c =
    let p = err_from_is_err_and c.from_residual.result c.from_residual.ensures.1 in
    rw (p.1, p.2) (stops_logs c.args.head _ _ _ _ _ c.in_err-flush_logs.ensures)

pub returns-in_err-write_chosen : goal.returns-in_err-write_chosen
returns-in_err-write_chosen g c =
    let p = err_from_is_err_and c.from_residual-in_err-write_chosen.result c.from_residual-in_err-write_chosen.ensures.1 in
    rw (p.1, p.2) (stops_writes c.args.head _ _ _ _ c.in_ok-flush_logs.ensures _ _ c.in_err-write_chosen.ensures)

pub returns-in_err-flush : goal.returns-in_err-flush
returns-in_err-flush g c =
    let told = c.in_err-flush.ensures in
    let p = err_from_is_err_and c.from_residual-in_err-flush.result c.from_residual-in_err-flush.ensures.1 in
    rw (p.1, p.2) (stops_flush c.args.head _ _ _ _ c.in_ok-flush_logs.ensures _ c.in_ok-write_chosen.ensures _ _ told.answers told.leaves)
