use Rattle.std.proofs.Common.{arith}
use Rattle.memory_rack.proofs.Calls.{poke_reads}
use Rattle.memory_rack.proofs.MemoryRack.poke.Goals as goal

pub returns-clause-reads : goal.returns-clause-reads
returns-clause-reads c = poke_reads _ _ _ _ c.in_ok-i.ensures.finds _ _ (omega arith) _ c.put_at.ensures
