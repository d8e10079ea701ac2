use Rattle.std.proofs.Common.{refl, sym, ap, ◌∙◌, subst, arith}
use Rattle.std.proofs.lemmas.Bool.Decides.{not_from_Decides}
use Rattle.block.specs.Commits.{commit_of, CommitShaped}
use Rattle.block.proofs.Numbers.{AllBytes}
use Rattle.block.proofs.Reading.{none_by_length, none_by_shape, none_by_value, some_value}
use Rattle.block.proofs.CommitLaws.{commits, commit_of_ok}
use Rattle.block.proofs.commits.Commit.read.Goals as goal

pub returns-in_err-block : goal.returns-in_err-block
returns-in_err-block c = rw c.from_residual.ensures (none_by_length commits c.args.block.now c.in_err-block.ensures.cases)

pub returns-then-not-is_shaped : goal.returns-then-not-is_shaped
returns-then-not-is_shaped c =
    none_by_shape commits c.args.block.now (λ s. not_from_Decides _ c.if-not-is_shaped.ensures refl (subst CommitShaped (sym c.in_ok-block.ensures.cases.same) s))

pub returns-then-commit-eq0 : goal.returns-then-commit-eq0
returns-then-commit-eq0 c =
    let is = c.of-commit.ensures ∙ ap commit_of c.in_ok-block.ensures.cases.same in
    none_by_value commits c.args.block.now (λ ok. omega (arith, ok.some_set, ok.some_number, ap (λ z. z.set) is, ap (λ z. z.number) is))

pub returns : goal.returns
returns c =
    let b = c.args.block.now in
    let same = c.in_ok-block.ensures.cases.same in
    let is = c.of-commit.ensures ∙ ap commit_of same in
    let small : AllBytes b = λ i. let f = c.type_inv.block i in omega arith in
    let ok = commit_of_ok b small (omega (arith, ap (λ z. z.set) is)) (omega (arith, ap (λ z. z.number) is)) in
    let shaped = subst CommitShaped same (c.if-not-is_shaped.ensures.0 refl) in
    some_value commits b c.of-commit.result is c.in_ok-block.ensures.cases.long small shaped ok
