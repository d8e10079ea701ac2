use Rattle.change.proofs.Overlays.{Laying}
use Rattle.change.proofs.edits.overlay_runs.Given as goal

abbrev pub invariant-loop-pair : goal.invariant-loop-pair
invariant-loop-pair l = Laying l.pairs l.bytes l.initial.content l.pair-index l.rest l.content
