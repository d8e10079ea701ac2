use Rattle.std.proofs.Common.{ℕ, ap₂, ◌∙◌}
use Rattle.std.proofs.lemmas.Result.{err_from_is_err_and}
use Rattle.strokes.specs.Plan.{run}
use Rattle.block.specs.Bytes.{zeros}
use Rattle.block.specs.Heads.{head_block}
use Rattle.recovery.proofs.LayingOut.{stops_zeroing, stops_wiping, stops_blanking, ends_heading}
use Rattle.recovery.proofs.lay_out.Goals as goal

pub returns : goal.returns
unfolding zeros run
returns g c =
    ends_heading _ _ c.requires _ c.in_ok-put_head.ensures _ c.in_ok-wipe_logs.ensures _ _ c.block.result c.put_head-2.result
    c.in_ok-blank_pages.ensures
    (c.block.ensures ∙ ap₂ (λ (p l : ℕ). head_block (record { pages = p; round = 1; logs = l })) c.pages.ensures.value c.logs.ensures.value)
    c.put_head-2.ensures

pub returns-in_err-put_head : goal.returns-in_err-put_head
unfolding zeros run
returns-in_err-put_head g c =
    let p = err_from_is_err_and c.from_residual.result c.from_residual.ensures.1 in
    rw (p.1, p.2) (stops_zeroing _ _ c.requires _ _ c.in_err-put_head.ensures)

pub returns-in_err-wipe_logs : goal.returns-in_err-wipe_logs
unfolding zeros run
returns-in_err-wipe_logs g c =
    let p = err_from_is_err_and c.from_residual-in_err-wipe_logs.result c.from_residual-in_err-wipe_logs.ensures.1 in
    rw (p.1, p.2) (stops_wiping _ _ c.requires _ c.in_ok-put_head.ensures _ _ c.in_err-wipe_logs.ensures)

pub returns-in_err-blank_pages : goal.returns-in_err-blank_pages
unfolding zeros run
returns-in_err-blank_pages g c =
    let p = err_from_is_err_and c.from_residual-in_err-blank_pages.result c.from_residual-in_err-blank_pages.ensures.1 in
    rw (p.1, p.2) (stops_blanking _ _ c.requires _ c.in_ok-put_head.ensures _ c.in_ok-wipe_logs.ensures _ _ c.in_err-blank_pages.ensures)
