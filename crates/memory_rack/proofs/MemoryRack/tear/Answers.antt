use Rattle.memory_rack.proofs.Calls.{tear_reads}
use Rattle.memory_rack.proofs.MemoryRack.tear.Goals as goal

pub returns-clause-reads : goal.returns-clause-reads
returns-clause-reads c = tear_reads _ _ _ _ c.in_ok-i.ensures.finds _ c.clear_at.ensures
