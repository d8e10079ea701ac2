use Rattle.std.proofs.Common.{rules, ◌≡◌, ◌≤◌, get_or, take, refl, ap, ◌∙◌, arith}
use Rattle.std.proofs.lemmas.Slice.{between_from_start}
use Rattle.block.proofs.FromFn.{filled}
use Rattle.change.specs.Held.{listed}
use Rattle.change.specs.Pairs.{no_pair}
use Rattle.change.proofs.PairCodec.{pair_there, read_pairs, kept_of}
use Rattle.change.proofs.runs.Pairs.read.Goals as goal

pub returns : goal.returns
returns c =
    let b = c.args.block.now in
    let n = get_or b 1 0 in
    let items = c.from_fn-all.ensures.items in
    let all = filled _ 4 (pair_there b) (λ p. p.0.now ≡ b) (λ p i y q l s e. search rules) no_pair _ c.from_fn-all.result refl items in
    let found = c.in_ok-get.ensures.lookup.0 in
    let few : n ≤ 4 = omega (arith, found.1, items.long) in
    kept_of listed n c.in_ok-get.field-0.now _ c.new.result few found.3 (found.2 ∙ between_from_start c.from_fn-all.result n ∙ ap (take n) all ∙ read_pairs n b few) c.new.ensures
