use Rattle.std.proofs.Common.{length, get_or, ap, ◌∙◌, arith}
use Rattle.change.specs.Pairs.{no_pair}
use Rattle.change.proofs.Overlays.{next_pair, length_run, length_over, gathering_more}
use Rattle.change.proofs.edits.gather_runs.Goals as goal

pub loop-pair-preserved : goal.loop-pair-preserved
loop-pair-preserved c =
    let g = c.loop-pair.invariant.1 in
    let n = next_pair c.args.pairs.now c.loop-pair.pair-index g.last c.loop-pair-test.true g.order in
    let p = get_or c.args.pairs.now c.loop-pair.pair-index no_pair in
    let l = length_run c.args.content.now p.offset p.length (omega (arith, n.within)) in (
      ap length c.put.ensures ∙ length_over c.loop-pair.joined _ c.loop-pair.at (omega (arith, n.within, n.behind, g.low, l, c.loop-pair.invariant.0)) ∙ c.loop-pair.invariant.0,
      simp c.put.ensures (gathering_more c.args.pairs.now c.args.content.now c.told-content c.loop-pair.pair-index c.loop-pair.at c.loop-pair.joined c.loop-pair-test.true c.loop-pair.invariant.0 g),
    )
