use Rattle.desk_messages.proofs.ClientWriting.{reads_texts}
use Rattle.desk_messages.proofs.client_laws.reads_texts.Goals as goal

pub returns : goal.returns
returns c = reads_texts
