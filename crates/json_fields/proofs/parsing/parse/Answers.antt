use Rattle.std.proofs.Common.{inr, refl}
use Rattle.json_fields.proofs.Bytes.{json_of-none, json_of-some}
use Rattle.json_fields.proofs.parsing.parse.Goals as goal

pub returns-in-Ok-clause-ok : goal.returns-in-Ok-clause-ok
returns-in-Ok-clause-ok c = json_of-some _ _ c.in-Ok.ensures.ok.0 c.in-Ok.ensures.ok.1

pub returns-else-is_memory-clause-refused : goal.returns-else-is_memory-clause-refused
returns-else-is_memory-clause-refused c =
    inr (refl, json_of-none _ (c.in-Err.ensures.err (λ m. let t = c.is_memory.ensures.1 m in cc)))
