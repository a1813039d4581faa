use Rattle.desk_messages.proofs.OneReply.{only}
use Rattle.desk_messages.proofs.reply_laws.one_reply.Goals as goal

pub returns : goal.returns
returns c = only
