use Rattle.std.proofs.Common.{◌∙◌, ap, sym, rules, length, ◌/◌, []}
use Rattle.std.proofs.lemmas.Bool.{eqb-true}
use Rattle.script.proofs.Pairs.{pairs_in, even, odd_hex, no_pairs, begun, pairs_more}
use Rattle.script.proofs.values.hex.Goals as goal
use Rattle.script.proofs.values.hex.Goals.{then-is_empty-via-then-is_empty, then-is_empty-via-else-is_empty+then-not-is_empty}

pub returns-then-is_empty : goal.returns-then-is_empty
returns-then-is_empty c = elim c.then-is_empty.branch [
  | then-is_empty-via-then-is_empty w ↦ no_pairs c.args.word.now (eqb-true _ 0 (sym w.if-is_empty.ensures))
  | then-is_empty-via-else-is_empty+then-not-is_empty w ↦ odd_hex c.args.word.now (search rules)
]

pub loop-high-init : goal.loop-high-init
loop-high-init c = begun _ c.as_chunks.result.0.now c.args.word.now c.new-bytes.ensures.items (search rules) (ap pairs_in c.as_chunks.ensures.front ∙ even (length c.args.word.now / 2) _ (search rules))

pub loop-high-preserved : goal.loop-high-preserved
loop-high-preserved c = pairs_more _ _ _ _ _ [] c.loop-high-test.true (search rules) c.in_ok-push.ensures.items ∙ c.loop-high.invariant
