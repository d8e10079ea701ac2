use Rattle.std.proofs.Common.{rules, ◌∙◌, inl, inr}
use Rattle.std.proofs.lemmas.Result.{err_from_is_err_and}
use Rattle.table.proofs.Writing.{page_written, page_passed, writing_more, writing_stops, writing_all}
use Rattle.table.proofs.Turning.{page_turn, pages_over}
use Rattle.table.proofs.write_chosen.Goals as goal

-- a page that is not chosen
pub loop-page-preserved : goal.loop-page-preserved
loop-page-preserved g c =
    let now = c.loop-page.invariant in
    let turn = page_turn _ _ _ _ now.left _ _ _ _ c.in-Some.ensures.steps in
    record {
      can_next = search rules;
      is_finite = search rules;
      left = turn.left;
      written = rw turn.next (writing_more _ _ _ _ _ _ _ turn.more now.written (page_passed _ _ _ _ (turn.flag ∙ c.if-is_chosen.false)));
    }

-- one that is, and is written
pub loop-page-preserved-in-Continue-1 : goal.loop-page-preserved-in-Continue-1
loop-page-preserved-in-Continue-1 g c =
    let now = c.loop-page.invariant in
    let turn = page_turn _ _ _ _ now.left _ _ _ _ c.in-Some.ensures.steps in
    let told = c.in_ok-put_page.ensures in
    record {
      can_next = search rules;
      is_finite = search rules;
      left = turn.left;
      written = rw turn.next
          (writing_more _ _ _ _ _ _ _ turn.more now.written (page_written _ _ _ _ c.in-Some.content.now _ _ _ turn.page turn.content (turn.flag ∙ c.if-is_chosen.true) told.answers told.leaves));
    }

-- one that is, and could not be written
pub returns-in_err-put_page : goal.returns-in_err-put_page
returns-in_err-put_page g c =
    let now = c.loop-page.invariant in
    let turn = page_turn _ _ _ _ now.left c.next.new.self _ _ _ c.in-Some.ensures.steps in
    let told = c.in_err-put_page.ensures in
    let p = err_from_is_err_and c.from_residual.result c.from_residual.ensures.1 in
    rw (p.1, p.2)
    (writing_stops _ _ _ _ _ _ _ _ turn.more now.written (page_written _ _ _ _ c.in-Some.content.now _ _ _ turn.page turn.content (turn.flag ∙ c.if-is_chosen.true) told.answers told.leaves))

-- no page is left, or no flag, or no place in the table
pub returns : goal.returns
returns g c =
    let now = c.loop-page.invariant in
    let over = pages_over _ _ _ _ now.left (search rules) (search rules) (elim c.in-None.ensures.steps [ inl h ↦ inl h.1.1.0 | inr (z, inl h) ↦ inr (inl h.1.0) | inr (z, inr h) ↦ inr (inr h.1.0) ]) in
    writing_all _ _ _ _ _ _ (search rules) over now.written
