use Rattle.entry_rules.specs.Meeting.{git_name}
use Rattle.entry_rules.proofs.Meetings.{listed_true}
use Rattle.entry_rules.proofs.laws.acts_where.Goals as goal

pub returns : goal.returns
returns c = λ files name key policy. listed_true files (git_name name) policy key
