use Rattle.table.proofs.Writing.{Writing}
use Rattle.table.proofs.Turning.{Left, page_at}
use Rattle.table.proofs.write_chosen.Given as goal

abbrev pub invariant-loop-page : goal.invariant-loop-page
invariant-loop-page g l =
    let m = g.R.Rack.meaning in
    let it = l.page-iterator in
    record {
      can_next : (goal.iterator-loop-page g).can_next it;
      is_finite : (goal.iterator-loop-page g).is_finite it;
      left : Left l.pages l.chosen l.table it;
      written : Writing l.chosen l.table l.pages (m l.initial.rack) (page_at it) (m l.rack);
    }
