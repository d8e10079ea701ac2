use Rattle.std.proofs.Common.{◌≡◌, ℕ, ◌<◌, ◌≤◌, get_or, take}
use Rattle.rack.specs.Sizes.{padded}
use Rattle.rack.proofs.shape.Shape.new.Given as goal

-- the sizes so far have their places, and each fits
abbrev pub invariant-loop-drive : goal.invariant-loop-drive
invariant-loop-drive l = record {
  placed : l.narrow ≡ padded (take l.drive l.sizes);
  fit : (k : ℕ) → k < l.drive → get_or l.sizes k 0 ≤ 65535;
}
