use Rattle.std.proofs.lemmas.List.Splits.{join_with_byte-slice_split}
use Rattle.git_object.proofs.NamesAloud.{no_slash, pair_found, pair_there}
use Rattle.git_object.proofs.object_laws.names.Goals as goal

pub returns : goal.returns
returns c = record {
  joined = λ text. join_with_byte-slice_split 47 text;
  no_slash = no_slash;
  pairs = λ x y text. (λ has. pair_found x y text has, λ there. pair_there x y text there.0 there.1 there.2);
}
