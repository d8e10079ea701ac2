use Rattle.std.proofs.Common.{◌-◌}
use Rattle.strokes.specs.Plan.{run}
use Rattle.strokes.proofs.Playing.{Onto}
use Rattle.strokes.proofs.write_run.Given as goal

-- what is left to write is a run of the blocks that the range has left
abbrev pub invariant-loop-block : goal.invariant-loop-block
invariant-loop-block g l =
    let m = g.R.Rack.meaning in
    let whole = l.initial.block-iterator in
    let rest = l.block-iterator in
    Onto (run l.drive whole.start (whole.end - whole.start) l.bytes) (m l.initial.rack) (run l.drive rest.start (rest.end - rest.start) l.bytes) (m l.rack)
