use Rattle.later.proofs.Derived.{kept_exactly}
use Rattle.later.proofs.is_upto.Goals as goal

pub returns-clause-lawful : goal.returns-clause-lawful
returns-clause-lawful g c apart = kept_exactly g.met.T.Ord.total apart
