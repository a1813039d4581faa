use Rattle.std.proofs.Common.{◌∙◌, sym}
use Rattle.std.proofs.lemmas.Bool.{false≢true}
use Rattle.commands_snapshot.proofs.parents.read_parent.Goals as goal

pub returns-in-Ok-false-clause-why : goal.returns-in-Ok-false-clause-why
returns-in-Ok-false-clause-why g c = λ r held. record {
  stands = sym (c.in-Ok-Some.ensures.answer r (c.has_commit.ensures.same.content r held)) ∙ c.in-Ok-Some.field-0-is;
  none = λ has. false≢true (sym c.in-Ok-false.field-0-test ∙ (c.in-Ok-false.ensures.has r held).1 has);
}
