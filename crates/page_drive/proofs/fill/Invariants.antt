use Rattle.std.proofs.Common.{◌≡◌, map}
use lib.Seq.{paste}
use Rattle.model.specs.Recovery.{drive_mark}
use Rattle.page_drive.proofs.fill.Given as goal

abbrev pub invariant-loop-i : goal.invariant-loop-i
invariant-loop-i l = l.marks ≡ paste l.initial.marks l.at (map drive_mark l.bytes) l.i
