use Rattle.std.proofs.Common.{◌∙◌, rules}
use Rattle.drive_set.proofs.Counting.{ones_held, counts_all}
use Rattle.drive_set.proofs.DriveSet.count.Goals as goal

pub returns-clause-all : goal.returns-clause-all
returns-clause-all c = counts_all _ _ (c.ones.ensures ∙ ones_held c.args.self (search rules))
