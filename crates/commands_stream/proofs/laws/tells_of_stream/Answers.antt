use Rattle.commands_stream.proofs.ToldStream.{told_export, told_import}
use Rattle.commands_stream.proofs.laws.tells_of_stream.Goals as goal

pub returns : goal.returns
returns g c = record {
  import = told_import g.R.Keeper;
  export = told_export;
}
