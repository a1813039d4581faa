use Rattle.commands_policy.proofs.OneOutcome.{same_applied, same_explained}
use Rattle.commands_policy.proofs.laws.one_of_policy.Goals as goal

pub returns : goal.returns
returns c = record {
  applied = λ file was. same_applied c.logs.ensures.one_log c.logs.ensures.one_break c.logs.ensures.never_both was file;
  explained = same_explained c.logs.ensures.one_log c.logs.ensures.one_break c.logs.ensures.never_both;
}
