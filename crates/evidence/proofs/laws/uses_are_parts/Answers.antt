use Rattle.evidence.proofs.SignatureParts.{uses_are_parts}
use Rattle.evidence.proofs.laws.uses_are_parts.Goals as goal

pub returns : goal.returns
returns c = uses_are_parts
