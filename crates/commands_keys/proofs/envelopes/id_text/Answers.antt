use Rattle.std.proofs.Common.{subst, sym}
use Rattle.std.specs.Prelude.{IsUtf8}
use Rattle.std.proofs.lemmas.Str.{IsUtf8-string_bytes}
use Rattle.commands_keys.proofs.Lengths.{text_of_bytes}
use Rattle.commands_keys.proofs.envelopes.id_text.Goals as goal

pub returns-clause-utf8 : goal.returns-clause-utf8
returns-clause-utf8 c =
    text_of_bytes c.from_slice.result c.as_bytes.result.now c.from_slice.ensures (subst IsUtf8 (sym c.as_bytes.ensures.value) (IsUtf8-string_bytes c.in_ok-text.text))
