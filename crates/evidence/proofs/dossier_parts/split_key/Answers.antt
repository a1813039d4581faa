use Rattle.std.proofs.Common.{◌++◌, ◌∷◌, sym, ap, ◌∙◌, ℕ, List}
use Rattle.std.proofs.lemmas.Bool.{true≢false}
use Rattle.hex.specs.Hex.{encode_lower}
use Rattle.text_reader.specs.Line.{has_byte}
use Rattle.text_reader.proofs.Unique.{has_byte_here}
use Rattle.evidence.specs.Dossiers.{bytes_in}
use Rattle.evidence.proofs.KeyLines.{key_found, key_then, key_words, same_digits}
use Rattle.evidence.proofs.dossier_parts.split_key.Goals as goal

pub returns-in_default-clause-none : goal.returns-in_default-clause-none
returns-in_default-clause-none c = λ part more is same.
    c.in_default.ensures.none (encode_lower is.public ++ 10 ∷ more) (same ∙ ap (λ (p : List ℕ). p ++ more) is.is ∙ key_then is.public more)

pub returns-in_default-split_line-clause-none : goal.returns-in_default-split_line-clause-none
returns-in_default-split_line-clause-none c = λ part more is same.
    let words = key_words c.args.text.now c.in-Some.words.now part more c.in-Some.ensures.found is same in
    true≢false (sym (has_byte_here 10 (encode_lower is.public) more) ∙ ap (has_byte 10) (sym words) ∙ c.in_default-split_line.ensures.none)

pub returns-in_default-from_hex-clause-none : goal.returns-in_default-from_hex-clause-none
returns-in_default-from_hex-clause-none c = λ part more is same.
    let words = key_words c.args.text.now c.in-Some.words.now part more c.in-Some.ensures.found is same in
    c.in_default-from_hex.ensures.none is.public is.is_public
    (same_digits c.in-Some.words.now c.in-Some-split_line.line.0.now c.in-Some-split_line.line.1.now is.public more is.is_public
    c.in-Some-split_line.ensures.first c.in-Some-split_line.ensures.found words).0

pub returns-clause-found : goal.returns-clause-found
returns-clause-found c =
    key_found c.args.text.now c.in-Some.words.now c.in-Some-split_line.line.0.now c.in-Some-split_line.line.1.now (bytes_in c.in-Some-from_hex.public)
    c.in-Some.ensures.found c.in-Some-split_line.ensures.found c.in-Some-from_hex.ensures.found
