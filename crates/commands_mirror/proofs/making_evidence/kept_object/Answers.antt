use Rattle.std.proofs.Common.{refl}
use Rattle.commands_mirror.proofs.making_evidence.kept_object.Goals as goal

pub returns-in-Ok-Some-clause-ends : goal.returns-in-Ok-Some-clause-ends
returns-in-Ok-Some-clause-ends g c = record {
  is = rw c.in-Ok-Some.field-0-is at c.in-Ok-Some.ensures.own;
  has = rw c.in-Ok-Some.field-0-is at c.in-Ok-Some.ensures.found;
}

pub returns-in-Ok-None-clause-ends : goal.returns-in-Ok-None-clause-ends
returns-in-Ok-None-clause-ends g c = (refl, rw c.in-Ok-None.field-0-is at c.in-Ok-None.ensures.none)
