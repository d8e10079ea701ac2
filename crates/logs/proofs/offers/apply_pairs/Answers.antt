use Rattle.std.proofs.Common.{rules}
use Rattle.change.proofs.PairLists.{total_more}
use Rattle.logs.proofs.Runs.{pairs_more}
use Rattle.logs.proofs.offers.apply_pairs.Goals as goal

pub loop-pair-preserved : goal.loop-pair-preserved
loop-pair-preserved c =
    let t = total_more c.loop-pair.pair-index c.args.pairs.now c.loop-pair-test.true in
    let e = pairs_more c.args.stamp c.args.start c.args.pairs.now c.loop-pair.rest.now c.loop-pair.marks c.loop-pair.pair-index c.apply_run.new.marks c.loop-pair-test.true in
    search rules
