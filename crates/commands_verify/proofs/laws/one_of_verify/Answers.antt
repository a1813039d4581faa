use Rattle.commands_verify.proofs.SameOutcome.{same_judging}
use Rattle.commands_verify.proofs.laws.one_of_verify.Goals as goal

pub returns : goal.returns
returns c = record {
  verify = same_judging c.one_spelling.ensures c.one_refusal.ensures c.logs.ensures.one_break;
}
