use Rattle.std.proofs.Common.{◌-◌, [], ◌∷◌}
use Rattle.std.proofs.lemmas.Result.{err_from_is_err_and}
use Rattle.strokes.specs.declared.Stroke.TheVariants.{Flush}
use Rattle.strokes.specs.Plan.{run, settled_run}
use Rattle.strokes.proofs.Playing.{onto_part, refused_part, last_stroke}
use Rattle.strokes.proofs.settle_run.Goals as goal

pub returns : goal.returns
returns g c =
    let a = c.args in
    let told = c.flush.ensures in
    last_stroke (Flush a.drive) (settled_run a.drive a.blocks.start (a.blocks.end - a.blocks.start) a.bytes.now) _ _ _ _
    (onto_part (run a.drive a.blocks.start (a.blocks.end - a.blocks.start) a.bytes.now) _ _ _ c.in_ok-write_run.ensures)
    told.answers told.leaves

pub returns-in_err-write_run : goal.returns-in_err-write_run
returns-in_err-write_run g c =
    let a = c.args in
    let p = err_from_is_err_and c.from_residual.result c.from_residual.ensures.1 in
    rw (p.1, p.2) (refused_part (run a.drive a.blocks.start (a.blocks.end - a.blocks.start) a.bytes.now) (Flush a.drive ∷ []) _ _ _ c.in_err-write_run.ensures)
