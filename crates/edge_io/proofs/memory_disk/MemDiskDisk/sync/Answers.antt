use Rattle.edge_io.proofs.Passing.{either, synced_keeps, synced_passes}
use Rattle.edge_io.proofs.memory_disk.MemDiskDisk.sync.Goals as goal

pub returns-clause-kept : goal.returns-clause-kept
returns-clause-kept c = synced_keeps _ _ (either c.settle.result c.settle.ensures.failed c.settle.ensures.done)

pub returns-clause-time : goal.returns-clause-time
returns-clause-time c = synced_passes _ _ (either c.settle.result c.settle.ensures.failed c.settle.ensures.done)
