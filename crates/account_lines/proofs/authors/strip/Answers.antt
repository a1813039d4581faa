use Rattle.rsl_chain.proofs.WordLemmas.{strip_is}
use Rattle.account_lines.proofs.authors.strip.Goals as goal

pub returns : goal.returns
returns c = strip_is _ _ c.strip_front.result c.strip_front.ensures.found c.strip_front.ensures.none
