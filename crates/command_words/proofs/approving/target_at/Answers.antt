use Rattle.std.proofs.Common.{refl, subst, sym}
use Rattle.std.proofs.lemmas.Bool.{false≢true}
use Rattle.text_reader.specs.Hexadecimal.{IsLowerHexadecimal}
use Rattle.command_words.proofs.OneCommand.{no_target}
use Rattle.command_words.proofs.approving.target_at.Goals as goal

pub returns-in_default-clause-none : goal.returns-in_default-clause-none
returns-in_default-clause-none c =
    no_target _ c.args.text.now refl
    (λ is. false≢true (c.in_default.ensures.found.1 (subst (IsLowerHexadecimal 32) (sym c.as_bytes.ensures.value) is)))
