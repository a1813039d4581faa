use Rattle.std.proofs.lemmas.Bool.{false≢true}
use Rattle.command_words.proofs.Parts.{not_here}
use Rattle.command_words.proofs.ids.ids_of.Goals as goal

pub returns-in_default-clause-none : goal.returns-in_default-clause-none
returns-in_default-clause-none g c =
    not_here (λ part. part.now) c.args.parts.now c.parts.part-index _ c.as_bytes.result.now c.parts-test.true c.as_bytes.ensures.value
    (λ is. false≢true (c.in_default.ensures.found.1 is))
