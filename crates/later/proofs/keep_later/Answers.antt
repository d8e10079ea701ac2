use Rattle.later.proofs.Places.{keeps_the_latest}
use Rattle.later.proofs.keep_later.Goals as goal

pub returns-then-is_upto-clause-lawful : goal.returns-then-is_upto-clause-lawful
returns-then-is_upto-clause-lawful g c = keeps_the_latest g.met.T.Ranked.order

pub returns-else-at-kept-clause-lawful : goal.returns-else-at-kept-clause-lawful
returns-else-at-kept-clause-lawful g c = keeps_the_latest g.met.T.Ranked.order
