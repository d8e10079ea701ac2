use Rattle.std.proofs.Common.{◌≡◌, ℕ, ◌<◌, get_or}
use Rattle.model.specs.Rounds.{rest_page}
use Rattle.pages.specs.Pages.{no_page, page_in}
use Rattle.table.specs.Found.{table_bytes}
use Rattle.table.proofs.found_pages.Given as goal

-- the pages so far have their bytes
abbrev pub invariant-loop-page : goal.invariant-loop-page
invariant-loop-page l = (p : ℕ) → p < l.page → page_in (get_or l.slot-items p no_page) ≡ rest_page (table_bytes l.pages l.marks p)
