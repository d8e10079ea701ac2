use Rattle.std.proofs.Common.{◌≡◌, vec_items, drop}
use Rattle.script.specs.Values.{hex_in}
use Rattle.script.proofs.Pairs.{pairs_in}
use Rattle.script.proofs.Upon.{upon}
use Rattle.script.proofs.values.hex.Given as goal

abbrev pub invariant-loop-high : goal.invariant-loop-high
invariant-loop-high l = upon (vec_items l.bytes) (pairs_in (drop l.high-index l.pairs)) ≡ hex_in l.word
