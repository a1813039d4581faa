use Rattle.std.proofs.Common.{refl, ◌∙◌}
use Rattle.command_words.proofs.OneCommand.{no_key}
use Rattle.command_words.proofs.evidence_words.key_at.Goals as goal

pub returns-in_default-clause-none : goal.returns-in_default-clause-none
returns-in_default-clause-none c =
    no_key _ c.args.text.now refl (λ public is same. c.in_default.ensures.none public is (c.as_bytes.ensures.value ∙ same))
