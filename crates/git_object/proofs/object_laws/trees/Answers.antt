use Rattle.git_object.proofs.TreeLemmas.{apart, one_place, one_text, one_value}
use Rattle.git_object.proofs.Totality.{tree_decided}
use Rattle.git_object.proofs.object_laws.trees.Goals as goal

pub returns : goal.returns
returns c = record { one_text = one_text; one_value = one_value; apart = apart; one_place = one_place; decided = tree_decided }
