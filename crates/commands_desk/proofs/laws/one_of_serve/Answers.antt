use Rattle.commands_desk.proofs.OneServe.{same_serve}
use Rattle.commands_desk.proofs.laws.one_of_serve.Goals as goal

pub returns : goal.returns
returns c = same_serve c.logs.ensures.one_log c.logs.ensures.one_break c.logs.ensures.never_both
