use Rattle.would_be.proofs.Firsts.{would_first}
use Rattle.would_be.proofs.laws.first_told.Goals as goal

pub returns : goal.returns
returns c = λ anchor r current stood p found rules is. would_first r stood p found anchor current rules is
