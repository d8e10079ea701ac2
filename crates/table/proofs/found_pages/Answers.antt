use Rattle.std.proofs.Common.{◌≢◌, ℕ, ◌<◌, length, ap, ◌∙◌, arith, get_or-set_other, get_or-set_same, below_more}
use Rattle.model.specs.Rounds.{rest_page}
use Rattle.table.proofs.Finding.{pages_found}
use Rattle.table.proofs.found_pages.Goals as goal

pub loop-page-preserved : goal.loop-page-preserved
loop-page-preserved c =
    let t = c.loop-page.slot-items in
    let n = c.loop-page.page in
    let lt : n < length t = omega arith in
    below_more _ _
    (λ p h. let ne : p ≢ n = omega arith in rw get_or-set_other (c.loop-page.invariant p h))
    (rw get_or-set_same (c.resting.ensures ∙ ap rest_page c.table_bytes.ensures))

pub returns : goal.returns
returns c =
    let each = λ (p : ℕ) (h : p < 64). c.loop-page.invariant p (omega arith) in
    record { each = each; found = pages_found c.args.marks.now c.args.pages c.loop-page.slot-items each }
