use Rattle.std.proofs.Common.{refl, sym, ap, ◌∙◌, subst, arith}
use Rattle.std.proofs.lemmas.Bool.Decides.{not_from_Decides}
use Rattle.block.specs.Heads.{head_of, HeadShaped}
use Rattle.block.proofs.Numbers.{AllBytes}
use Rattle.block.proofs.Reading.{none_by_length, none_by_shape, none_by_value, some_value}
use Rattle.block.proofs.HeadLaws.{heads, head_of_ok}
use Rattle.block.proofs.Head.read.Goals as goal

pub returns-in_err-block : goal.returns-in_err-block
returns-in_err-block c = rw c.from_residual.ensures (none_by_length heads c.args.block.now c.in_err-block.ensures.cases)

pub returns-then-not-is_shaped : goal.returns-then-not-is_shaped
returns-then-not-is_shaped c =
    none_by_shape heads c.args.block.now (λ s. not_from_Decides _ c.if-not-is_shaped.ensures refl (subst HeadShaped (sym c.in_ok-block.ensures.cases.same) s))

pub returns-then-head-eq0 : goal.returns-then-head-eq0
returns-then-head-eq0 c =
    let is = c.of-head.ensures ∙ ap head_of c.in_ok-block.ensures.cases.same in
    none_by_value heads c.args.block.now (λ ok. omega (arith, ok.begun, ap (λ z. z.round) is))

pub returns : goal.returns
returns c =
    let b = c.args.block.now in
    let same = c.in_ok-block.ensures.cases.same in
    let is = c.of-head.ensures ∙ ap head_of same in
    let small : AllBytes b = λ i. let f = c.type_inv.block i in omega arith in
    let ok = head_of_ok b small (omega (arith, ap (λ z. z.round) is)) in
    let shaped = subst HeadShaped same (c.if-not-is_shaped.ensures.0 refl) in
    some_value heads b c.of-head.result is c.in_ok-block.ensures.cases.long small shaped ok
