use Rattle.commands_desk.proofs.OnePush.{same_push}
use Rattle.commands_desk.proofs.push_laws.one_of_push.Goals as goal

pub returns : goal.returns
returns c = same_push c.logs.ensures.one_log c.logs.ensures.one_break c.logs.ensures.never_both c.one_making.ensures c.one_reading.ensures c.one_cause.ensures
