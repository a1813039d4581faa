use Rattle.std.proofs.Common.{◌≡◌, ◌++◌, drop, take}
use Rattle.object_making.specs.Editing.{put_entry}
use Rattle.object_making.proofs.editing.split_place.Given as goal

abbrev pub invariant-entries : goal.invariant-entries
invariant-entries l = take l.i l.entries ++ put_entry l.entry (drop l.i l.entries) ≡ put_entry l.entry l.entries
