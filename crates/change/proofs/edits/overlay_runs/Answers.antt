use Rattle.change.proofs.Overlays.{laying_more, laying_all}
use Rattle.change.proofs.edits.overlay_runs.Goals as goal

pub loop-pair-preserved : goal.loop-pair-preserved
loop-pair-preserved c =
    rw (c.put.ensures, c.split_at.ensures.front, c.split_at.ensures.back)
    (laying_more c.args.pairs.now c.args.bytes.now c.args.content.now c.loop-pair.pair-index c.loop-pair.rest.now c.loop-pair.content c.loop-pair-test.true c.loop-pair.invariant)

pub returns : goal.returns
returns c = laying_all c.args.pairs.now c.args.bytes.now c.args.content.now c.loop-pair.pair-index c.loop-pair.rest.now c.loop-pair.content c.loop-pair-test.false c.loop-pair.invariant
