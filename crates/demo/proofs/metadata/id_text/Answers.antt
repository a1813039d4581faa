use Rattle.std.proofs.Common.{◌∙◌, subst, sym}
use Rattle.std.specs.Prelude.{IsUtf8}
use Rattle.std.proofs.lemmas.Str.{IsUtf8-string_bytes}
use Rattle.demo.proofs.metadata.id_text.Goals as goal

pub returns-clause-utf8 : goal.returns-clause-utf8
returns-clause-utf8 c = subst IsUtf8 (sym (c.in_ok-text.ensures ∙ c.as_bytes-2.ensures.value)) (IsUtf8-string_bytes c.in_ok-digits.digits)
