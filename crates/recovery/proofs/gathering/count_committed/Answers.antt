use Rattle.std.proofs.Common.{◌≡◌, not, eqb, sym, ◌∙◌, rules}
use Rattle.std.specs.List.{count_by}
use Rattle.std.proofs.iter.runs.Made.{chains}
use Rattle.recovery.proofs.Counting.{committed_is}
use Rattle.recovery.proofs.gathering.count_committed.Goals as goal

pub returns : goal.returns
returns c =
    let e : c.count.result ≡ count_by (λ n. not (eqb n 0)) c.args.numbers.now = search (rules, chains) in
    e ∙ sym (committed_is c.args.numbers.now)
