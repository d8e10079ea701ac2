use Rattle.station.proofs.Examples.{worked_examples}
use Rattle.station.proofs.worked_examples.Goals as goal

pub returns : goal.returns
returns c = worked_examples
