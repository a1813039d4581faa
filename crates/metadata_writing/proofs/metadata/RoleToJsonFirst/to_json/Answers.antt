use Rattle.std.proofs.Common.{subst, sym}
use Rattle.std.specs.Prelude.{All}
use Rattle.metadata_writing.proofs.Refused.{moved}
use Rattle.metadata_writing.specs.Texts.{IsNamed}
use Rattle.metadata_writing.proofs.metadata.RoleToJsonFirst.to_json.Goals as goal

pub returns-in-Err-clause-unwritable : goal.returns-in-Err-clause-unwritable
returns-in-Err-clause-unwritable c = λ is has. c.in-Err.ensures.unwritable (moved c.in-Err.fault is) (subst (All IsNamed) (sym c.as_slice.ensures.value) has)
