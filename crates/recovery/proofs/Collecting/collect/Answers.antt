use Rattle.std.proofs.lemmas.Result.{err_from_is_err_and}
use Rattle.recovery.specs.Views.{collecting_in}
use Rattle.recovery.proofs.Collects.{does_not_collect, does_ill, does_collect}
use Rattle.recovery.proofs.Collecting.collect.Goals as goal

pub returns-in_err-check : goal.returns-in_err-check
returns-in_err-check g c =
    let p = err_from_is_err_and c.from_residual.result c.from_residual.ensures.1 in
    λ ks. rw (p.1, p.2) (does_not_collect _ ks _ _ _ c.in_err-check.ensures)

pub returns-in_err-collect : goal.returns-in_err-collect
returns-in_err-collect g c =
    let p = err_from_is_err_and c.from_residual-in_err-collect.result c.from_residual-in_err-collect.ensures.1 in
    λ ks. rw (p.1, p.2) (does_ill (collecting_in c.args.self.now) ks _ _ c.in_ok-check.ensures c.log.result c.log.ensures _ c.in_err-collect.ensures.answers)

pub returns : goal.returns
returns g c =
    let told = c.in_ok-collect.ensures in
    λ ks. does_collect (collecting_in c.args.self.now) ks _ _ c.in_ok-check.ensures c.log.result c.log.ensures
    c.args.self.now.scan.frame.ok.2 told.answers _ told.keeps _ c.with-self.ensures _ c.untaken.ensures
