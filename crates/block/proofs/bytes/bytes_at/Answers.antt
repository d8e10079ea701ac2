use Rattle.std.proofs.Common.{rules, ◌≡◌, get_or, drop, refl, ap, ◌∙◌}
use Rattle.block.proofs.FromFn.{filled, rest_is}
use Rattle.block.proofs.Numbers.{bytes_from_rest}
use Rattle.block.proofs.bytes.bytes_at.Goals as goal

pub returns : goal.returns
returns g c =
    let b = c.args.bytes.now in
    let i = c.args.at in
    let rest = c.unwrap_or-rest.result.now in
    let start : rest ≡ drop i b = ap (λ r. r.now) c.unwrap_or-rest.ensures ∙ rest_is b i c.get.result _ refl c.get.ensures.lookup in
    filled _ g.row.N (λ k. get_or rest k 0) (λ p. p.0.now ≡ rest) (λ p k y q l s e. search rules) 0 _ c.from_fn.result refl c.from_fn.ensures.items ∙ bytes_from_rest b i g.row.N rest start
