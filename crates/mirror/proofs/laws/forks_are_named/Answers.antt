use Rattle.mirror.proofs.ForkNames.{fork_is_named}
use Rattle.mirror.proofs.laws.forks_are_named.Goals as goal

pub returns : goal.returns
returns c = fork_is_named
