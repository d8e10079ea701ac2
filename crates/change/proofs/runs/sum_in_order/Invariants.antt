use Rattle.std.proofs.Common.{◌≡◌, ◌+◌, ◌≤◌, drop}
use Rattle.change.specs.Pairs.{total, in_order}
use Rattle.change.proofs.runs.sum_in_order.Given as goal

-- the pairs up to here stand in order, and what is left decides
abbrev pub invariant-loop-p : goal.invariant-loop-p
invariant-loop-p l = (l.sum ≤ l.end) × (l.end ≤ 240) × (in_order l.end (drop l.p-index l.pairs) ≡ in_order 0 l.pairs) × (l.sum + total (drop l.p-index l.pairs) ≡ total l.pairs)
