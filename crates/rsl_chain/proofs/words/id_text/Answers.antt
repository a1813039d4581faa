use Rattle.rsl_chain.proofs.WordLemmas.{id_is}
use Rattle.rsl_chain.proofs.words.id_text.Goals as goal

pub returns : goal.returns
returns c = id_is _ c.from_hex.result c.from_hex.ensures.found c.from_hex.ensures.value c.from_hex.ensures.valid
