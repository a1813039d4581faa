use Rattle.std.proofs.Common.{ap}
use Rattle.std.specs.Prelude.{Err}
use Rattle.demo.proofs.NamedReferences.{main_is_named}
use Rattle.demo.proofs.histories.main_name.Goals as goal

pub unreachable-requires : goal.unreachable-requires
unreachable-requires c = c.in-Err-BadRef.ensures.bad (ap Err c.in-Err-BadRef.field-0-is) main_is_named
