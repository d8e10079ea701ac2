use Rattle.std.proofs.Common.{rules, ◌+◌, ◌-◌, ◌++◌, length, refl, ap, ◌∙◌}
use Rattle.block.specs.Bytes.{zeros}
use Rattle.change.proofs.Parts.{four_parts}
use Rattle.change.proofs.assembled.Goals as goal

pub returns : goal.returns
unfolding zeros
returns c =
    let s = c.as_flattened.result.now in
    four_parts c.args.head.now s c.args.before.now c.args.after.now _ _ _ _ _ (search rules) (search rules) refl c.put.ensures c.put-2.ensures c.put-3.ensures c.put-4.ensures
    ∙ ap (λ s. c.args.head.now ++ (s ++ (c.args.before.now ++ (c.args.after.now ++ zeros (480 - (length c.args.before.now + length c.args.after.now)))))) c.as_flattened.ensures.value
