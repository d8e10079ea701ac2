use Rattle.std.proofs.Common.{◌≡◌, suc, ap, ◌∙◌, arith}
use Rattle.model.specs.Logs.{value_at}
use Rattle.model.specs.Recovery.{is_none, drive_marks}
use Rattle.model.proofs.SomeOf.{none_passes}
use Rattle.page_drive.proofs.Pasting.{so_far_none, so_far_more, so_far_all}
use Rattle.page_drive.proofs.read_pages.Goals as goal

pub loop-page-init : goal.loop-page-init
loop-page-init g c = λ can. so_far_none _ _

pub loop-page-preserved : goal.loop-page-preserved
loop-page-preserved g c =
    let m = g.R.Rack.meaning c.args.rack.now in
    let p = c.loop-page.page in
    λ can.
    let there = none_passes (λ k. is_none (value_at m 0 (suc k))) c.args.pages p (omega arith) can.readable in
    so_far_more c.args.marks.now m p c.loop-page.marks _ (c.loop-page.invariant can) (c.read_page.ensures.whole there) c.read_page.ensures.after

pub returns : goal.returns
returns g c =
    let m = g.R.Rack.meaning c.args.rack.now in
    let e : c.loop-page.page ≡ c.args.pages = omega arith in
    λ can. so_far_all c.args.marks.now m c.loop-page.page _ (c.loop-page.invariant can) (omega (arith, can.marks)) ∙ ap (drive_marks m) e
