use Rattle.std.proofs.Common.{◌≤◌, ◌+◌, arith, [], ◌∷◌, length}
use Rattle.std.proofs.lemmas.List.{length-append}
use Rattle.edge_io.specs.declared.disk_calls.DiskCall.TheVariants.{Write}
use Rattle.edge_io.proofs.Keeping.{kept_write, with_write}
use Rattle.edge_io.proofs.memory_disk.MemDisk.put.Goals as goal

pub put_over-requires-clause-within : goal.put_over-requires-clause-within
put_over-requires-clause-within c = rw c.self.invariant.0.seen (rw (← c.self.view_is) at c.requires.within)

pub put_over-requires-clause-room : goal.put_over-requires-clause-room
put_over-requires-clause-room c =
    let within : c.args.at ≤ length c.self.inside.bytes.items = put_over-requires-clause-within c in
    omega (arith, c.self.invariant.0.long, c.self.invariant.2, c.if-bytes-self.false, c.self.invariant.0.room)

pub invariant_of-self-2 : goal.invariant_of-self-2
invariant_of-self-2 c =
    let within : c.args.at ≤ length c.self.inside.bytes.items = rw c.self.invariant.0.seen (rw (← c.self.view_is) at c.requires.within) in
    let fits : length c.self.inside.written.items + length c.args.bytes.now ≤ c.self.inside.room = omega (arith, c.if-bytes-self.false, c.self.invariant.0.room) in (
      rw (c.note.ensures.added, c.append.ensures.added, c.put_over.ensures.bytes) (kept_write _ _ _ _ _ _ _ within fits c.self.invariant.0),
      rw c.note.ensures.added (omega (arith, length-append c.self.inside.kept.items (Write c.args.at (length c.args.bytes.now) ∷ []), c.fails.ensures.made c.if-fails.false)),
      omega (arith, c.put_over.ensures.room, c.self.invariant.2),
      omega (arith, c.append.ensures.room, c.self.invariant.3),
      omega (arith, c.note.ensures.room, c.self.invariant.4),
    )

pub returns-clause-done : goal.returns-clause-done
returns-clause-done c =
    rw (← c.self.view_is, c.note.ensures.added, c.append.ensures.added, with_write [] _ _ _ _ c.self.invariant.0.whole, length-append c.self.inside.written.items c.args.bytes.now, c.fails.ensures.done c.if-fails.false)
