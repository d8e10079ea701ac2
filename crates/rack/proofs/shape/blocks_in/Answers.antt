use Rattle.std.proofs.Common.{◌≡◌, ◌≤◌, rules, arith, sum}
use Rattle.std.proofs.lemmas.List.Sums.{sum_by-le}
use Rattle.std.proofs.lemmas.List.Elements.{All-from_get_or}
use Rattle.rack.proofs.shape.blocks_in.Goals as goal

pub returns-clause-bound : goal.returns-clause-bound
returns-clause-bound c =
    let total : c.sum.result ≡ sum c.args.sizes.now = search rules in
    omega (arith, sum_by-le (λ x. x) 65535 c.args.sizes.now (All-from_get_or (λ x. x ≤ 65535) _ 0 (λ i h. omega (arith, c.type_inv.sizes i))))
