use Rattle.std.proofs.Common.{subst, sym}
use Rattle.std.specs.Str.{IsUtf8}
use Rattle.keeper_directory.proofs.Digits.{id_is_text}
use Rattle.keeper_directory.proofs.places.FolderPaths.point_at_object.Goals as goal

pub unreachable-requires : goal.unreachable-requires
unreachable-requires c = c.in-Err.ensures.cases.0 (subst IsUtf8 (sym c.to_hex-digits.ensures) (id_is_text c.args.id.now c.as_bytes.ensures.valid))
