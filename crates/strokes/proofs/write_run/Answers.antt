use Rattle.std.proofs.lemmas.Result.{err_from_is_err_and}
use Rattle.strokes.specs.declared.Stroke.TheVariants.{Write}
use Rattle.strokes.proofs.Playing.{onto_all, stroke_made, stroke_refused}
use Rattle.strokes.proofs.Runs.{run_next, run_none}
use Rattle.strokes.proofs.write_run.Goals as goal

pub loop-block-preserved : goal.loop-block-preserved
loop-block-preserved g c =
    let a = c.args in
    let told = c.in_ok-write_at.ensures in
    let next = c.in-Some.ensures.steps in
    stroke_made (Write a.drive c.in-Some.block a.bytes.now) _ _ _ _ _
    (rw (run_next a.drive c.loop-block.block-iterator c.next.new.self c.in-Some.block a.bytes.now next.0 next.1.0 next.1.1 next.1.2) at c.loop-block.invariant)
    told.answers told.leaves

pub returns : goal.returns
returns g c =
    let a = c.args in
    let from = c.into_iter-block-iterator in
    onto_all _ _ _ (rw (run_none a.drive c.loop-block.block-iterator a.bytes.now c.in-None.ensures.steps.1.0, from.ensures.into_iter_gives) at c.loop-block.invariant)

pub returns-in_err-write_at : goal.returns-in_err-write_at
returns-in_err-write_at g c =
    let a = c.args in
    let told = c.in_err-write_at.ensures in
    let next = c.in-Some.ensures.steps in
    let p = err_from_is_err_and c.from_residual.result c.from_residual.ensures.1 in
    rw (p.1, p.2)
    (stroke_refused (Write a.drive c.in-Some.block a.bytes.now) _ _ _ _ _ _
    (rw (run_next a.drive c.loop-block.block-iterator c.next.new.self c.in-Some.block a.bytes.now next.0 next.1.0 next.1.1 next.1.2, c.into_iter-block-iterator.ensures.into_iter_gives) at c.loop-block.invariant)
    told.answers told.leaves)
