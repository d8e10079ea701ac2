use Rattle.std.proofs.Common.{◌≡◌, ◌-◌, sym, ◌∙◌, arith}
use Rattle.frame.specs.Shapes.{shape_with}
use Rattle.frame.proofs.Legal.{legal_facts}
use Rattle.frame.proofs.Fitting.{same_shape, same_legal}
use Rattle.frame.proofs.Frame.of.Goals as goal

pub returns : goal.returns
returns g c =
    let m = g.R.Rack.meaning c.args.rack.now in
    let a = c.sizes_of-sizes in
    let logs : c.in_ok-logs.logs ≡ m.count - 1 = omega (arith, c.drives.ensures, c.in_ok-logs.ensures.1) in
    let facts = legal_facts (shape_with c.args.pages c.in_ok-logs.logs a.result) (sym c.if-not-is_legal.ensures) in (
      sym (c.if-not-is_legal.ensures ∙ same_legal m a.result a.ensures.len a.ensures.each c.args.pages c.in_ok-logs.logs logs),
      same_shape m a.result a.ensures.len a.ensures.each c.args.pages c.in_ok-logs.logs logs facts.few_logs,
    )
