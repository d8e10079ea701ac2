use Rattle.model.specs.Rounds.{finishing}
use Rattle.recovery.specs.Views.{applying_in}
use Rattle.recovery.proofs.Refusing.{refuses}
use Rattle.recovery.proofs.Finishes.{does_end_short, does_finish}
use Rattle.recovery.proofs.Applying.finish.Goals as goal

pub returns-in-Err : goal.returns-in-Err
unfolding finishing
returns-in-Err g c = refuses _ _ _ _ c.in-Err.ensures

pub returns-in-Err-end_round : goal.returns-in-Err-end_round
returns-in-Err-end_round g c =
    does_end_short (applying_in c.args.self) c.args.marks.now (g.R.Rack.meaning c.args.rack.now) c.in_default.ensures c.args.self.scan.frame.legal
    c.pages-pages.result c.logs.result c.pages-pages.ensures.value c.logs.ensures.value c.found_pages-table.result (c.found_pages-table.ensures.found c.pages-pages.ensures.most)
    _ (g.R.Rack.meaning c.end_round.new.rack) c.in-Err-end_round.ensures

pub returns-in-Ok : goal.returns-in-Ok
returns-in-Ok g c =
    does_finish (applying_in c.args.self) c.args.marks.now (g.R.Rack.meaning c.args.rack.now) c.in_default.ensures c.args.self.scan.frame.legal
    c.pages-pages.result c.logs.result c.pages-pages.ensures.value c.logs.ensures.value c.found_pages-table.result (c.found_pages-table.ensures.found c.pages-pages.ensures.most)
    (g.R.Rack.meaning c.end_round.new.rack) c.in-Ok.ensures _ _ c.count_committed.ensures c.count_named.ensures _ c.rested.ensures
