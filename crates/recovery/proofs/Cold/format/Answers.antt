use Rattle.std.proofs.Common.{rules, subst}
use Rattle.std.specs.Result.{result_err}
use Rattle.std.proofs.lemmas.Result.{err_from_is_err_and}
use Rattle.model.specs.Store.{Shape, shape_of}
use Rattle.strokes.specs.Plan.{Plays}
use Rattle.model.specs.Format.{format_plan}
use Rattle.recovery.proofs.Formats.{at_frame, at_none, formats}
use Rattle.recovery.proofs.Cold.format.Goals as goal

pub returns-in_err-frame-clause-does : goal.returns-in_err-frame-clause-does
returns-in_err-frame-clause-does g c =
    let p = err_from_is_err_and c.from_residual.result c.from_residual.ensures.1 in
    rw (p.1, p.2) (at_none c.args.pages (g.R.Rack.meaning c.args.rack.now) c.of.result _ c.of.ensures c.in_err-frame.ensures.value)

pub returns : goal.returns
returns g c =
    let m = g.R.Rack.meaning c.args.rack.now in
    let framed = at_frame (shape_of c.args.pages m) c.of.result _ c.of.ensures c.in_ok-frame.ensures.value in
    let n = g.R.Rack.meaning c.lay_out.new.rack in
    let played = subst (λ (z : Shape). Plays (format_plan z) m (result_err c.lay_out.result) n) framed.1 c.lay_out.ensures in
    let h = formats _ (λ f e k. search rules) c.args.pages m n framed.0 c.lay_out.result c.map_err.result played c.map_err.ensures.cases in
    record { does = h.does; stands = h.stands }
