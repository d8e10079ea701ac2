use Rattle.std.proofs.Common.{◌≡◌, ◌-◌}
use Rattle.later.specs.Keeping.{kept_all}
use Rattle.later.specs.Stamps.{mark_upto}
use Rattle.model.specs.Logs.{offers_from, named_from}
use Rattle.model.specs.Recovery.{marked}
use Rattle.logs.specs.Scans.{offers_in, named_in}
use Rattle.logs.proofs.Log.apply.Given as goal

-- what is left of the log gives what the whole log gave at first
abbrev pub invariant-loop-block : goal.invariant-loop-block
invariant-loop-block g l =
    let m = g.R.Rack.meaning l.rack in
    let log = l.self in
    (kept_all mark_upto l.marks (offers_from l.numbers log.pages log.round m log.drive l.block (log.blocks - l.block)) ≡ kept_all mark_upto l.initial.marks (offers_in log l.numbers m)) ×
    (marked (named_from log.pages log.round m log.drive l.block (log.blocks - l.block)) l.named ≡ marked (named_in log m) l.initial.named)
