use Rattle.std.proofs.Common.{ℕ, List, ap, ◌∙◌, subst}
use Rattle.std.specs.Result.{result_err}
use Rattle.block.specs.Heads.{head_block}
use Rattle.strokes.specs.Plan.{Plays, run}
use Rattle.model.specs.Format.{headed}
use Rattle.table.proofs.Raising.{raised}
use Rattle.table.proofs.raise_head.Goals as goal

pub returns : goal.returns
unfolding run
returns g c =
    let m = g.R.Rack.meaning in
    subst (λ (v : List ℕ). Plays (headed v) (m c.args.rack.now) (result_err c.settle_run.result) (m c.settle_run.new.rack))
    (c.block.ensures ∙ (ap head_block c.next_head.ensures ∙ raised c.args.head)) c.settle_run.ensures
