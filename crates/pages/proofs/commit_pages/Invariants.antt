use Rattle.std.proofs.Common.{◌≡◌, ◌++◌, map, take, drop}
use Rattle.pages.specs.Pages.{released}
use Rattle.pages.proofs.commit_pages.Given as goal

abbrev pub invariant-loop-page : goal.invariant-loop-page
invariant-loop-page l = l.page-items ≡ map (released l.set) (take l.page-index l.fn.pages) ++ drop l.page-index l.fn.pages
