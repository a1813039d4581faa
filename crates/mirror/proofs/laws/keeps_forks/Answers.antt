use Rattle.mirror.proofs.ManyOffers.{forks_kept}
use Rattle.mirror.proofs.laws.keeps_forks.Goals as goal

pub returns : goal.returns
returns c = forks_kept c.logs.ensures.one_log
