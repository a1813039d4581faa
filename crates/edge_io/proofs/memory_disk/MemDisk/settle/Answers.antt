use Rattle.std.proofs.Common.{arith, [], ◌∷◌}
use Rattle.std.proofs.lemmas.List.{length-append}
use Rattle.edge_io.specs.declared.disk_calls.DiskCall.TheVariants.{Sync}
use Rattle.edge_io.proofs.Keeping.{kept_sync, with_sync}
use Rattle.edge_io.proofs.memory_disk.MemDisk.settle.Goals as goal

pub invariant_of-self-2 : goal.invariant_of-self-2
invariant_of-self-2 c = (
  rw c.note.ensures.added (kept_sync _ _ _ _ _ c.self.invariant.0),
  rw c.note.ensures.added (omega (arith, length-append c.self.inside.kept.items (Sync ∷ []), c.fails.ensures.made c.if-fails.false)),
  c.self.invariant.2,
  c.self.invariant.3,
  omega (arith, c.note.ensures.room, c.self.invariant.4),
)

pub returns-clause-done : goal.returns-clause-done
returns-clause-done c = rw (← c.self.view_is, c.note.ensures.added, with_sync [] _ _, c.fails.ensures.done c.if-fails.false)
