use Rattle.std.proofs.Common.{◌≤◌, rules, sym, ◌∙◌}
use Rattle.model.specs.Store.{legal_log}
use Rattle.frame.specs.Shapes.{shape_with}
use Rattle.frame.proofs.Every.{every_after_first}
use Rattle.frame.proofs.Legal.{legal_by_logs}
use Rattle.frame.proofs.standing.is_legal.Goals as goal

pub returns-then-contains-2 : goal.returns-then-contains-2
returns-then-contains-2 c =
    let few : c.args.logs ≤ 8 = search rules in
    c.logs_are_legal.ensures ∙ every_after_first legal_log c.args.sizes.now c.args.logs (search rules)
    ∙ sym (legal_by_logs (shape_with c.args.pages c.args.logs c.args.sizes.now) (search rules) (search rules) (search rules) (search rules) few)
