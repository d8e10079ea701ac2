use Rattle.std.proofs.Common.{ℕ, ◌-◌, ◌<◌, List, Some, None, Option, subst, arith}
use Rattle.strokes.specs.declared.Stroke.{Stroke}
use Rattle.std.proofs.lemmas.Result.{err_from_is_err_and}
use Rattle.rack.specs.declared.RackFault.{RackFault}
use Rattle.rack.specs.Meaning.{Meaning}
use Rattle.block.specs.Bytes.{zeros}
use Rattle.strokes.specs.Plan.{Plays, settled_run}
use Rattle.strokes.proofs.Playing.{Onto, onto_all, part_made, part_refused}
use Rattle.model.specs.Format.{wipe, wipes}
use Rattle.recovery.proofs.Wiping.{wipes_more, wipes_all}
use Rattle.recovery.proofs.wipe_logs.Goals as goal

-- the part of the plan that the loop has come to
at_drive : (m k : Meaning) (d : ℕ) (plan : List Stroke) → d < m.count → Onto plan m (wipes m.size d (m.count - d)) k → (r : Option RackFault) (n : Meaning) → Plays (wipe k.size d) k r n → Plays (wipe m.size d) k r n
at_drive m k d plan h o r n p = subst (λ (j : ℕ). Plays (settled_run d 0 j (zeros 512)) k r n) (o.alike.size d) p

pub loop-drive-preserved : goal.loop-drive-preserved
loop-drive-preserved g c =
    let m = g.R.Rack.meaning c.args.rack.now in
    let d = c.loop-drive.drive in
    let h : d < m.count = omega arith in
    part_made (wipe m.size d) _ _ m _ _ (rw (wipes_more m.size d m.count h) at c.loop-drive.invariant) (at_drive _ _ _ _ h c.loop-drive.invariant None _ c.in_ok-wipe_log.ensures)

pub returns : goal.returns
returns g c =
    let m = g.R.Rack.meaning c.args.rack.now in
    onto_all _ _ _ (rw (wipes_all m.size c.loop-drive.drive m.count (omega arith)) at c.loop-drive.invariant)

pub returns-in_err-wipe_log : goal.returns-in_err-wipe_log
returns-in_err-wipe_log g c =
    let m = g.R.Rack.meaning c.args.rack.now in
    let d = c.loop-drive.drive in
    let h : d < m.count = omega arith in
    let p = err_from_is_err_and c.from_residual.result c.from_residual.ensures.1 in
    rw (p.1, p.2) (part_refused (wipe m.size d) _ _ m _ _ _ (rw (wipes_more m.size d m.count h) at c.loop-drive.invariant) (at_drive _ _ _ _ h c.loop-drive.invariant (Some _) _ c.in_err-wipe_log.ensures))
