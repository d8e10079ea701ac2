use Rattle.std.proofs.Common.{leb, sym, ◌∙◌, rules}
use Rattle.model.specs.Logs.{value_at, ill}
use Rattle.model.proofs.SomeOf.{some_true, some_more}
use Rattle.logs.proofs.Scanning.{scan_more, scan_all, keeping, commits_gather}
use Rattle.logs.proofs.Log.collect.Goals as goal

pub returns-in_err-collect_block-clause-answers : goal.returns-in_err-collect_block-clause-answers
returns-in_err-collect_block-clause-answers g c =
    let m = g.R.Rack.meaning c.args.rack.now in
    let log = c.args.self in
    let t = some_true (λ b. ill log.round log.pages (value_at m log.drive b)) log.blocks c.loop-block.block c.loop-block-test.true in
    search rules

pub loop-block-preserved : goal.loop-block-preserved
loop-block-preserved g c =
    let m = g.R.Rack.meaning c.args.rack.now in
    let log = c.args.self in
    let told = c.in_ok-collect_block.ensures in (
      some_more (λ b. ill log.round log.pages (value_at m log.drive b)) c.loop-block.block c.loop-block.invariant.0 (search rules),
      scan_more (keeping leb) (commits_gather _ _ _) _ _ _ _ c.loop-block-test.true told.keeps ∙ c.loop-block.invariant.1,
    )

pub returns-clause-keeps : goal.returns-clause-keeps
returns-clause-keeps g c = sym (scan_all (keeping leb) (commits_gather _ _ _) _ _ _ c.loop-block-test.false) ∙ c.loop-block.invariant.1
