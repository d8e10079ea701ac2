use Rattle.std.proofs.Common.{rules, length, ap, ◌∙◌}
use Rattle.script.specs.Reader.{words_of}
use Rattle.script.proofs.Splits.{split_some, split_none}
use Rattle.script.proofs.words.WordsIterator.next.Goals as goal

pub returns-in-Some-clause-steps : goal.returns-in-Some-clause-steps
returns-in-Some-clause-steps c = ap words_of c.in_ok-line.was ∙ split_some _ _ c.in-Some.ensures

pub returns-in-Some-clause-goes : goal.returns-in-Some-clause-goes
returns-in-Some-clause-goes c = let e = ap length (returns-in-Some-clause-steps c) in search rules

pub returns-in-None-clause-steps : goal.returns-in-None-clause-steps
returns-in-None-clause-steps c = ap words_of c.in_ok-line.was ∙ split_none _ c.in-None.ensures

pub returns-in-None-clause-goes : goal.returns-in-None-clause-goes
returns-in-None-clause-goes c = let e = ap length (returns-in-None-clause-steps c) in search rules
