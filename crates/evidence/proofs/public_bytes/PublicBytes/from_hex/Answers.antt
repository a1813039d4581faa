use Rattle.std.proofs.lemmas.Bool.{false≢true}
use Rattle.evidence.proofs.KeyLines.{no_public}
use Rattle.evidence.proofs.public_bytes.PublicBytes.from_hex.Goals as goal

pub returns-in-None-clause-none : goal.returns-in-None-clause-none
returns-in-None-clause-none c =
    no_public c.args.digits.now (λ is. false≢true (c.in_default.ensures.found.1 is)) (λ is. false≢true (c.in-None.ensures.found.1 is))
