use Rattle.std.proofs.Common.{sym, ◌∙◌}
use Rattle.later.specs.Stamps.{mark_upto}
use Rattle.logs.proofs.Scanning.{scan_more, scan_all, keeping, marking, offers_gather, names_gather}
use Rattle.logs.proofs.Log.apply.Goals as goal

pub loop-block-preserved : goal.loop-block-preserved
loop-block-preserved g c =
    let told = c.apply_block.ensures in (
      scan_more (keeping mark_upto) (offers_gather _ _ _ _ _) _ _ _ _ c.loop-block-test.true told.offers ∙ c.loop-block.invariant.0,
      scan_more marking (names_gather _ _ _ _) _ _ _ _ c.loop-block-test.true told.names ∙ c.loop-block.invariant.1,
    )

pub returns : goal.returns
returns g c = record {
  marks = sym (scan_all (keeping mark_upto) (offers_gather _ _ _ _ _) _ _ _ c.loop-block-test.false) ∙ c.loop-block.invariant.0;
  named = sym (scan_all marking (names_gather _ _ _ _) _ _ _ c.loop-block-test.false) ∙ c.loop-block.invariant.1;
}
