use Rattle.std.proofs.lemmas.Result.{err_from_is_err_and}
use Rattle.model.specs.Recovery.{apply_of}
use Rattle.model.proofs.AnyOrder.{any_order, largest_stays}
use Rattle.recovery.specs.Views.{applying_in}
use Rattle.recovery.proofs.Refusing.{refuses}
use Rattle.recovery.proofs.Applies.{does_apply}
use Rattle.recovery.proofs.Applying.apply.Goals as goal

pub returns-in_err-check : goal.returns-in_err-check
unfolding apply_of
returns-in_err-check g c =
    let p = err_from_is_err_and c.from_residual.result c.from_residual.ensures.1 in
    record { any_order = any_order; largest_stays = largest_stays; does = rw (p.1, p.2) (refuses _ _ _ _ c.in_err-check.ensures) }

pub returns : goal.returns
returns g c =
    let told = c.apply.ensures in
    record {
      any_order = any_order;
      largest_stays = largest_stays;
      does =
          does_apply (applying_in c.args.self.now) c.args.marks.now c.args.log (g.R.Rack.meaning c.args.rack.now) c.args.self.now.scan.frame.ok.2
          c.in_ok-check.ensures c.log.result c.log.ensures _ told.marks _ told.named _ c.with-self.ensures _ c.untaken.ensures;
    }
