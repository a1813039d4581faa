use Rattle.std.proofs.Common.{◌≡◌, ◌≤◌, length, ◌-◌}
use Rattle.std.specs.Io.KnownBytes.{Consumes}
use Rattle.keeper_directory.proofs.file_calls.read_front.Given as goal

abbrev pub invariant-front : goal.invariant-front
invariant-front g l = (length l.piece.items ≡ l.most) × (length l.front.items ≤ l.most) × Consumes (g.F.Read.remaining l.fn.reader) (g.F.Read.remaining l.reader) l.front.items

abbrev pub decreases-front : goal.decreases-front
decreases-front g l = l.enough - length l.front.items
