use Rattle.commands_log.proofs.OneHistory.{same_history, same_log}
use Rattle.commands_log.proofs.laws.one_of_history.Goals as goal

pub returns : goal.returns
returns c = record {
  history = same_history c.logs.ensures.one_log c.logs.ensures.one_break c.logs.ensures.never_both;
  log = same_log c.logs.ensures.one_log c.logs.ensures.one_break c.logs.ensures.never_both;
}
