use Rattle.block.specs.Bytes.{zeros}
use Rattle.block.proofs.Zeros.{over_zeros}
use Rattle.block.proofs.bytes.padded.Goals as goal

pub returns-clause-value : goal.returns-clause-value
unfolding zeros
returns-clause-value c = over_zeros 512 c.args.front.now c.copy_from_slice.new.self c.copy_from_slice.ensures.after
