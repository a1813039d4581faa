use Rattle.commands_verify.proofs.GlobalToldContent.{told_global}
use Rattle.commands_verify.proofs.global_laws.tells_of_global.Goals as goal

pub returns : goal.returns
returns c = record { global = told_global }
