use Rattle.git_object.proofs.TagLemmas.{apart, one_place, one_text, one_value}
use Rattle.git_object.proofs.Totality.{tag_decided}
use Rattle.git_object.proofs.object_laws.tags.Goals as goal

pub returns : goal.returns
returns c = record { one_text = one_text; one_value = one_value; apart = apart; one_place = one_place; decided = tag_decided }
