use Rattle.std.proofs.Common.{◌≡◌, ◌-◌}
use Rattle.model.specs.Room.{is_full, seek}
use Rattle.frame.specs.Frames.{shape_in}
use Rattle.log_space.specs.Views.{used_in}
use Rattle.log_space.proofs.LogSpace.home.Given as goal

-- what is left of the search finds what all of it finds
abbrev pub invariant-loop-tried : goal.invariant-loop-tried
invariant-loop-tried l =
    let z = shape_in l.frame in
    let full = is_full z (used_in l.self) in
    seek full z.logs (z.logs - l._tried) l.drive ≡ seek full z.logs z.logs l.self.turn
