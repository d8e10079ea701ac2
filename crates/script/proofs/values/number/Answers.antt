use Rattle.std.proofs.Common.{rules, tests, arith}
use Rattle.script.proofs.Decimals.{folded}
use Rattle.script.proofs.values.number.Goals as goal

pub returns : goal.returns
returns c = folded _ _ (λ f n x v h k. search (rules, tests)) _ _ _ c.args.word.now _ c.iter.ensures.rest (search rules) (omega arith) c.try_fold.ensures.ran
