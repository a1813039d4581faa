use Rattle.std.proofs.Common.{ap}
use Rattle.std.specs.Prelude.{Err}
use Rattle.git_object.proofs.ReferenceNames.{attestations_are_named}
use Rattle.git_object.proofs.names.RefName.of_attestations.Goals as goal

pub unreachable-requires : goal.unreachable-requires
unreachable-requires c = c.in-Err-BadRef.ensures.bad (ap Err c.in-Err-BadRef.field-0-is) attestations_are_named
