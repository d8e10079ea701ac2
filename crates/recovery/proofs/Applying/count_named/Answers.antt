use Rattle.std.proofs.Common.{◌≡◌, take, sym, ap, ◌∙◌, rules}
use Rattle.std.specs.List.{count_by}
use Rattle.std.proofs.iter.runs.Made.{chains}
use Rattle.drive_set.specs.Sets.{tally}
use Rattle.model.specs.Rounds.{is_named}
use Rattle.recovery.specs.Views.{applying_in}
use Rattle.recovery.proofs.Counting.{tally_is}
use Rattle.recovery.proofs.Applying.count_named.Goals as goal

pub returns : goal.returns
returns c =
    let named = c.args.self.now.named in
    let pages = c.pages.result in
    let e : c.count.result ≡ count_by (λ b. b) (take pages named) = search (rules, chains) in
    e ∙ sym (tally_is named pages) ∙ ap (tally (is_named (applying_in c.args.self.now))) c.pages.ensures.value
