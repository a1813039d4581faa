use Rattle.git_object.proofs.CommitLemmas.{apart, one_place, one_text, one_value}
use Rattle.git_object.proofs.Totality.{commit_decided}
use Rattle.git_object.proofs.object_laws.commits.Goals as goal

pub returns : goal.returns
returns c = record { one_text = one_text; one_value = one_value; apart = apart; one_place = one_place; decided = commit_decided }
