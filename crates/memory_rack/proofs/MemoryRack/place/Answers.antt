use Rattle.std.proofs.Common.{rules}
use Rattle.memory_rack.proofs.Places.{found_inside}
use Rattle.memory_rack.proofs.MemoryRack.place.Goals as goal

pub returns-clause-inside : goal.returns-clause-inside
returns-clause-inside c = found_inside c.args.self.now c.args.drive c.args.block c.ok_or.result (search rules)
