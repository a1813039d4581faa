use Rattle.std.proofs.Common.{◌≡◌, length}
use Rattle.std.specs.Io.KnownBytes.{Keeps}
use Rattle.keeper_directory.proofs.file_calls.read_piece.Given as goal

abbrev pub invariant-loop : goal.invariant-loop
invariant-loop g l = (length l.piece ≡ length l.fn.piece) × Keeps (g.F.Read.remaining l.fn.reader) (g.F.Read.remaining l.reader)
