use Rattle.std.proofs.Common.{◌≡◌, length}
use Rattle.change.proofs.Overlays.{Gathering}
use Rattle.change.proofs.edits.gather_runs.Given as goal

abbrev pub invariant-loop-pair : goal.invariant-loop-pair
invariant-loop-pair l = (length l.joined ≡ 240) × Gathering l.pairs l.content l.pair-index l.at l.joined
