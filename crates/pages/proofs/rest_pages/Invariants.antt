use Rattle.std.proofs.Common.{◌≡◌, ℕ, ◌<◌, ◌++◌, map, length, take, drop}
use Rattle.pages.specs.Pages.{committed_in, at_rest}
use Rattle.pages.proofs.rest_pages.Given as goal

abbrev pub invariant-loop-page : goal.invariant-loop-page
invariant-loop-page l =
    (l.page-items ≡ map at_rest (take l.page-index l.fn.pages) ++ drop l.page-index l.fn.pages) ×
    ((p : ℕ) → p < l.page-index → length (committed_in l.initial.page-items p) ≡ 240)
