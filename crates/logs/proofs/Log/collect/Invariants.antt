use Rattle.std.proofs.Common.{◌≡◌, ◌-◌, false, leb}
use Rattle.later.specs.Keeping.{kept_all}
use Rattle.model.specs.Store.{some_of}
use Rattle.model.specs.Logs.{value_at, ill, commits_from}
use Rattle.logs.specs.Scans.{commits_in}
use Rattle.logs.proofs.Log.collect.Given as goal

-- no block up to here is ill, and what is left of the log gives what the whole log gave at first
abbrev pub invariant-loop-block : goal.invariant-loop-block
invariant-loop-block g l =
    let m = g.R.Rack.meaning l.rack in
    (some_of (λ b. ill l.self.round l.self.pages (value_at m l.self.drive b)) l.block ≡ false) ×
    (kept_all leb l.numbers (commits_from l.self.round m l.self.drive l.block (l.self.blocks - l.block)) ≡ kept_all leb l.initial.numbers (commits_in l.self m))
