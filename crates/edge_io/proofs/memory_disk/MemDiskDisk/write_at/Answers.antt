use Rattle.edge_io.proofs.Passing.{either, written_follows, written_passes, written_torn}
use Rattle.edge_io.proofs.memory_disk.MemDiskDisk.write_at.Goals as goal

pub returns-clause-seen : goal.returns-clause-seen
returns-clause-seen c = written_torn _ _ _ _ (either c.put.result c.put.ensures.failed c.put.ensures.done)

pub returns-clause-crash : goal.returns-clause-crash
returns-clause-crash c = written_follows _ _ _ _ (either c.put.result c.put.ensures.failed c.put.ensures.done)

pub returns-clause-time : goal.returns-clause-time
returns-clause-time c = written_passes _ _ _ _ (either c.put.result c.put.ensures.failed c.put.ensures.done)
