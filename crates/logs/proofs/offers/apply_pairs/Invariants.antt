use Rattle.std.proofs.Common.{◌≡◌, ◌≤◌, length, drop}
use Rattle.change.specs.Pairs.{total}
use Rattle.later.specs.Keeping.{kept_all}
use Rattle.later.specs.Stamps.{mark_upto}
use Rattle.model.specs.Logs.{spread}
use Rattle.logs.proofs.offers.apply_pairs.Given as goal

-- the bytes last for the pairs that are left, and these give what all gave at first
abbrev pub invariant-loop-pair : goal.invariant-loop-pair
invariant-loop-pair l =
    (total (drop l.pair-index l.pairs) ≤ length l.rest) ×
    (kept_all mark_upto l.marks (spread l.stamp l.start (drop l.pair-index l.pairs) l.rest) ≡ kept_all mark_upto l.initial.marks (spread l.stamp l.start l.pairs l.bytes))
