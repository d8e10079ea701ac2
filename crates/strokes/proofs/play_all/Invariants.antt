use Rattle.std.proofs.Common.{drop}
use Rattle.strokes.proofs.Playing.{Onto}
use Rattle.strokes.proofs.play_all.Given as goal

abbrev pub invariant-loop-stroke : goal.invariant-loop-stroke
invariant-loop-stroke g l = let m = g.R.Rack.meaning in Onto l.plan (m l.initial.rack) (drop l.stroke-index l.plan) (m l.rack)
