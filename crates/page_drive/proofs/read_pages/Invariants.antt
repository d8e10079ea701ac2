use Rattle.page_drive.specs.Pages.{CanRead}
use Rattle.std.proofs.Common.{length}
use Rattle.page_drive.proofs.Pasting.{SoFar}
use Rattle.page_drive.proofs.read_pages.Given as goal

abbrev pub invariant-loop-page : goal.invariant-loop-page
invariant-loop-page g l =
    let m = g.R.Rack.meaning l.rack in
    CanRead m l.pages (length l.initial.marks) → SoFar l.initial.marks m l.page l.marks
