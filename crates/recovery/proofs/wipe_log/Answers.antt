use Rattle.std.proofs.Common.{◌≡◌, ◌-◌, arith}
use Rattle.rack.proofs.Outcomes.{blocks_in}
use Rattle.block.specs.Bytes.{zeros}
use Rattle.recovery.proofs.wipe_log.Goals as goal

pub returns : goal.returns
unfolding zeros
returns g c =
    let m = g.R.Rack.meaning c.args.rack.now in
    let b = blocks_in m c.args.drive c.in_ok-blocks.blocks c.in_ok-blocks.ensures in
    let e : c.in_ok-blocks.blocks - 0 ≡ m.size c.args.drive = omega arith in
    rw e at c.settle_run.ensures
