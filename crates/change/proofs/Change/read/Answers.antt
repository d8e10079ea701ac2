use Rattle.std.proofs.Common.{refl, sym, ap, ◌∙◌, subst, arith}
use Rattle.std.proofs.lemmas.Bool.Decides.{not_from_Decides}
use Rattle.block.proofs.Numbers.{AllBytes}
use Rattle.block.proofs.Reading.{none_by_length, none_by_shape, none_by_value, some_value}
use Rattle.change.specs.Changes.{content_with, pairs_of, Marked}
use Rattle.change.specs.Held.{listed}
use Rattle.change.specs.Pairs.{total_in}
use Rattle.change.proofs.ChangeLaws.{changes}
use Rattle.change.proofs.ReadLaws.{no_sum, shaped_from, rest_from, content_is, content_ok, content_begun}
use Rattle.change.proofs.Change.read.Goals as goal

pub returns-in_err-block : goal.returns-in_err-block
returns-in_err-block c = rw c.from_residual.ensures (none_by_length changes c.args.block.now c.in_err-block.ensures.cases)

pub returns-then-not-is_marked : goal.returns-then-not-is_marked
returns-then-not-is_marked c =
    none_by_shape changes c.args.block.now (λ s. not_from_Decides _ c.if-not-is_marked.ensures refl (subst Marked (sym c.in_ok-block.ensures.cases.same) s.marked))

pub returns-in_err-sum : goal.returns-in_err-sum
returns-in_err-sum c =
    let b = c.args.block.now in
    let found = c.in_ok-pairs.ensures ∙ ap pairs_of c.in_ok-block.ensures.cases.same in
    let none = c.in_err-sum.ensures.value ∙ ap total_in c.as_slice.ensures.value in
    rw c.from_residual-in_err-sum.ensures (none_by_value changes b (no_sum b (listed c.in_ok-pairs.pairs) found none))

pub returns-then-not-is_zero : goal.returns-then-not-is_zero
returns-then-not-is_zero c =
    let b = c.args.block.now in
    let same = c.in_ok-block.ensures.cases.same in
    let found = c.in_ok-pairs.ensures ∙ ap pairs_of same in
    let sum = c.in_ok-sum.ensures.value ∙ ap total_in c.as_slice.ensures.value in
    let rest = rest_from b (listed c.in_ok-pairs.pairs) found c.in_ok-sum.sum sum in
    none_by_shape changes b (λ s. not_from_Decides _ c.if-not-is_zero.ensures refl (rw same (rest s)))

pub returns-then-change-eq0 : goal.returns-then-change-eq0
returns-then-change-eq0 c =
    let b = c.args.block.now in
    let is = c.of-change.ensures ∙ ap (λ x. content_with x (listed c.in_ok-pairs.pairs) c.in_ok-sum.sum) c.in_ok-block.ensures.cases.same in
    none_by_value changes b (λ ok. let h = content_begun b ok in omega (arith, ap (λ z. z.set) is, ap (λ z. z.step) is))

pub returns : goal.returns
returns c =
    let b = c.args.block.now in
    let small : AllBytes b = λ i. let f = c.type_inv.block i in omega arith in
    let same = c.in_ok-block.ensures.cases.same in
    let ps = listed c.in_ok-pairs.pairs in
    let s = c.in_ok-sum.sum in
    let found = c.in_ok-pairs.ensures ∙ ap pairs_of same in
    let sum = c.in_ok-sum.ensures.value ∙ ap total_in c.as_slice.ensures.value in
    let is = c.of-change.ensures ∙ ap (λ x. content_with x ps s) same in
    let long = c.in_ok-block.ensures.cases.long in
    let mark = subst Marked same (c.if-not-is_marked.ensures.0 refl) in
    let shaped = shaped_from b ps found s sum mark (rw (← same) (c.if-not-is_zero.ensures.0 refl)) in
    let ok = content_ok b ps found s sum long small (omega (arith, ap (λ z. z.set) is)) (omega (arith, ap (λ z. z.step) is)) in
    some_value changes b _ (is ∙ content_is b ps found s sum) long small shaped ok
