use Rattle.std.proofs.Common.{◌≡◌, vec_items}
use Rattle.script.specs.Values.{numbers_in}
use Rattle.script.specs.Reader.{ahead}
use Rattle.script.proofs.Upon.{upon}
use Rattle.script.proofs.words.Words.numbers.Given as goal

abbrev pub invariant-loop-word : goal.invariant-loop-word
invariant-loop-word l =
    (goal.iterator-loop-word).can_next l.word-iterator ×
    (goal.iterator-loop-word).is_finite l.word-iterator ×
    (upon (vec_items l.numbers) (numbers_in (ahead l.word-iterator)) ≡ numbers_in (ahead l.fn.self))
