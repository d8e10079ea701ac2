use Rattle.std.proofs.Common.{rules, ap, ◌∙◌}
use Rattle.block.proofs.Numbers.{AllBytes}
use Rattle.block.proofs.ReadAs.{head_is}
use Rattle.model.specs.Recovery.{head_of_value}
use Rattle.page_drive.proofs.head_on.Goals as goal

pub returns : goal.returns
returns g c =
    let small : AllBytes c.in_ok-block.block = λ i. search rules in
    head_is c.in_ok-block.block small c.read.result c.read.ensures ∙ ap head_of_value c.in_ok-block.ensures
