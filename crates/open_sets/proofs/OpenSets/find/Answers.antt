use Rattle.std.proofs.Common.{◌≡◌, None, take, ap, ◌∙◌, rules, arith}
use Rattle.std.specs.Option.{option_map}
use Rattle.open_sets.specs.Views.{set_in}
use Rattle.open_sets.proofs.Numbers.{at_place, not_found}
use Rattle.open_sets.proofs.OpenSets.find.Goals as goal

pub returns-in_err-i : goal.returns-in_err-i
returns-in_err-i c =
    let o = c.args.self.now in
    let none : c.from_residual.result ≡ None = search rules in
    ap (option_map set_in) none ∙ not_found (take o.count o.sets) c.args.number (search rules)

pub returns : goal.returns
returns c = let o = c.args.self.now in (at_place o.sets o.count (omega arith) c.args.number c.in_ok-i.i (search rules)).found
