use Rattle.std.proofs.Common.{◌<◌, ◌≤◌, [], length, get_or, rules}
use Rattle.std.proofs.lemmas.List.{drop_more, drop_all}
use Rattle.std.proofs.lemmas.Result.{err_from_is_err_and}
use Rattle.strokes.specs.declared.Stroke.{Stroke}
use Rattle.strokes.specs.declared.Stroke.TheVariants.{Write}
use Rattle.strokes.proofs.Playing.{onto_all, stroke_made, stroke_refused}
use Rattle.strokes.proofs.Exactly.{done_from_plays}
use Rattle.strokes.proofs.Composing.{plans_compose}
use Rattle.strokes.proofs.Showing.{plans_show}
use Rattle.strokes.proofs.play_all.Goals as goal

-- a stroke that a list is read by, where it has no such place
none : Stroke
none = Write 0 0 []

pub loop-stroke-preserved : goal.loop-stroke-preserved
unfolding none
loop-stroke-preserved g c =
    let told = c.in_ok-play.ensures in
    let i = c.loop-stroke.stroke-index in
    let h : i < length c.args.plan.now = search rules in
    stroke_made (get_or c.args.plan.now i none) _ _ _ _ _ (rw (drop_more c.args.plan.now i none h) at c.loop-stroke.invariant) told.answers told.leaves

pub returns : goal.returns
returns g c =
    let h : length c.args.plan.now ≤ c.loop-stroke.stroke-index = search rules in
    let played = onto_all _ _ _ (rw (drop_all c.loop-stroke.stroke-index c.args.plan.now h) at c.loop-stroke.invariant) in
    record { plays = played; exactly = λ p. done_from_plays _ _ _ _ p played; composes = plans_compose; shows = plans_show }

pub returns-in_err-play : goal.returns-in_err-play
unfolding none
returns-in_err-play g c =
    let told = c.in_err-play.ensures in
    let i = c.loop-stroke.stroke-index in
    let h : i < length c.args.plan.now = search rules in
    let p = err_from_is_err_and c.from_residual.result c.from_residual.ensures.1 in
    let played = stroke_refused (get_or c.args.plan.now i none) _ _ _ _ _ _ (rw (drop_more c.args.plan.now i none h) at c.loop-stroke.invariant) told.answers told.leaves in
    rw (p.1, p.2) (record { plays = played; exactly = λ q. done_from_plays _ _ _ _ q played; composes = plans_compose; shows = plans_show })
