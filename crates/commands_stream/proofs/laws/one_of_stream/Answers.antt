use Rattle.commands_stream.proofs.SameStream.{same_export, same_import}
use Rattle.commands_stream.proofs.laws.one_of_stream.Goals as goal

pub returns : goal.returns
returns c = record {
  import = same_import c.one_spelling.ensures c.one_refusal.ensures;
  export = same_export c.one_export.ensures;
}
