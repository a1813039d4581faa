use Rattle.std.proofs.Common.{ap, ◌∙◌}
use Rattle.std.specs.Prelude.{Some}
use Rattle.rsl_chain.proofs.WordLemmas.{decoded_none, decoded_some}
use Rattle.rsl_chain.proofs.words.decode.Goals as goal

pub returns-in-Ok : goal.returns-in-Ok
returns-in-Ok c = ap Some c.from_vec.ensures ∙ decoded_some _ _ c.in-Ok.ensures.ok

pub returns-in-Err-DecodeError : goal.returns-in-Err-DecodeError
returns-in-Err-DecodeError c = decoded_none _ _ (rw c.in-Err-DecodeError.field-0-is at c.in-Err-DecodeError.ensures.err)
