use Rattle.commands_mirror.proofs.ToldMirror.{told_check, told_make, told_mirror}
use Rattle.commands_mirror.proofs.laws.tells_of_mirror.Goals as goal

pub returns : goal.returns
returns g c = record {
  mirror = told_mirror g.R.Keeper;
  make = told_make;
  check = told_check;
}
