use Rattle.edge_io.proofs.Passing.{unmoved_keeps, unmoved_passes}
use Rattle.edge_io.proofs.memory_disk.MemDiskDisk.read.Goals as goal

pub returns-clause-kept : goal.returns-clause-kept
returns-clause-kept c = unmoved_keeps c.args.self.now c.copy_out.new.self c.copy_out.ensures.same

pub returns-clause-time : goal.returns-clause-time
returns-clause-time c = unmoved_passes c.args.self.now c.copy_out.new.self c.copy_out.ensures.same
