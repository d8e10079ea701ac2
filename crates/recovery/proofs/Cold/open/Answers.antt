use Rattle.std.proofs.Common.{◌≡◌, ℕ, length, sym, ap, ◌∙◌, subst, rules}
use Rattle.std.proofs.lemmas.Result.{err_from_is_err_and, MatchResult-at_ok, MatchResult-at_err}
use Rattle.page_drive.specs.Pages.{CanRead}
use Rattle.model.specs.Store.{Shape, cold}
use Rattle.model.specs.Recovery.{opening, drive_marks}
use Rattle.model.proofs.Doing.{does_refused}
use Rattle.recovery.proofs.Refusing.{mapped_ok, mapped_err}
use Rattle.recovery.proofs.Opens.{does_open}
use Rattle.recovery.proofs.Cold.open.Goals as goal

pub returns-in_err-scan-clause-does : goal.returns-in_err-scan-clause-does
unfolding opening
returns-in_err-scan-clause-does g c =
    let p = err_from_is_err_and c.from_residual.result c.from_residual.ensures.1 in
    let q = mapped_err _ (λ f. record { store = c.args.self; refusal = f }) (λ e f k. search rules) c.of.result c.map_err.result c.map_err.ensures.cases _ c.in_err-scan.was in
    rw (p.1, p.2, q.2) (does_refused (opening (length c.args.marks.now) (g.R.Rack.meaning c.args.rack.now)) cold _ q.0 (MatchResult-at_err _ _ q.0 q.1 c.of.ensures))

pub returns-clause-does : goal.returns-clause-does
returns-clause-does g c =
    let m = g.R.Rack.meaning c.args.rack.now in
    let found = MatchResult-at_ok _ _ _ (mapped_ok _ c.of.result c.map_err.result c.map_err.ensures.cases _ c.in_ok-scan.was) c.of.ensures in
    let pages : c.pages.result ≡ found.head.pages = c.pages.ensures.value ∙ ap (λ (z : Shape). z.pages) found.shape in
    let read = c.read_pages.ensures (subst (λ (n : ℕ). CanRead m n (length c.args.marks.now)) (sym pages) found.can) ∙ ap (drive_marks m) pages in
    does_open m _ _ found _ read
