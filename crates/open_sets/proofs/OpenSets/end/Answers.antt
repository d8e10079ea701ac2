use Rattle.std.proofs.Common.{◌≡◌, ◌<◌, length, get_or, take, rules, tests, arith}
use Rattle.std.proofs.lemmas.List.Filters.{FiltersInPlace-more_set, FiltersInPlace-more_no}
use Rattle.std.proofs.lemmas.List.{get_or_default}
use Rattle.open_sets.proofs.Numbers.{blank, ended}
use Rattle.open_sets.proofs.OpenSets.end.Goals as goal
use Rattle.open_sets.proofs.OpenSets.end.Goals.{then-set-number, else-set-number}

pub loop-i-preserved : goal.loop-i-preserved
loop-i-preserved c =
    let l : c.loop-i.i < length c.loop-i.self.sets = omega (arith, c.loop-i.invariant.long) in
    let set = get_or c.loop-i.self.sets c.loop-i.i blank in
    elim c.if-set-number.branch [
      | then-set-number w ↦ rw (w.self-is, w.kept-is) (FiltersInPlace-more_set {x = set} c.loop-i.invariant l (search (rules, tests)) (get_or_default _ _ _ _ l))
      | else-set-number w ↦ rw (w.self-is, w.kept-is) (FiltersInPlace-more_no {x = set} c.loop-i.invariant l (search (rules, tests)) (get_or_default _ _ _ _ l))
    ]

pub returns : goal.returns
returns c =
    let all : c.loop-i.i ≡ c.args.self.now.count = omega arith in
    ended (take c.args.self.now.count c.args.self.now.sets) (take c.loop-i.kept c.loop-i.self.sets) c.args.number (rw all at c.loop-i.invariant.front)
