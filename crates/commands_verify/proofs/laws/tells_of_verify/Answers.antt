use Rattle.commands_verify.proofs.ToldContent.{told_verify}
use Rattle.commands_verify.proofs.laws.tells_of_verify.Goals as goal

pub returns : goal.returns
returns g c = record {
  verify = told_verify g.R.Keeper;
}
