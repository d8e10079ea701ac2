use Rattle.std.proofs.Common.{◌∙◌}
use Rattle.logs.proofs.Runs.{run_more}
use Rattle.logs.proofs.offers.apply_run.Goals as goal

pub loop-i-preserved : goal.loop-i-preserved
loop-i-preserved c =
    let e = c.keep_later.ensures.after in
    run_more c.args.stamp c.args.at c.args.bytes.now c.loop-i.marks c.keep_later.new.kept c.loop-i.i c.loop-i-test.true e ∙ c.loop-i.invariant
