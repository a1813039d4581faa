use Rattle.std.proofs.Common.{List, ℕ, ◌∷◌, ◌++◌, ◌≡◌, sym, ap, ◌∙◌}
use Rattle.hex.specs.Hex.{encode_lower}
use Rattle.text_reader.proofs.Unique.{same_front}
use Rattle.git_object.specs.HeaderLines.{id_line}
use Rattle.git_object.proofs.LineLemmas.{id_line_then, same_id}
use Rattle.git_object.proofs.header_lines.split_id_line.Goals as goal

-- what stands after the word, where the text begins with the line of an id
after_word : (text word after id more : List ℕ) → text ≡ word ++ after → text ≡ id_line word id ++ more → after ≡ encode_lower id ++ 10 ∷ more
after_word text word after id more found same = same_front word after (encode_lower id ++ 10 ∷ more) (sym found ∙ same ∙ id_line_then word id more)

pub returns-in_default-clause-none : goal.returns-in_default-clause-none
returns-in_default-clause-none c = λ id more is same.
    c.in_default.ensures.none (encode_lower id ++ 10 ∷ more) (same ∙ id_line_then c.args.word.now id more)

pub returns-in_default-split_front-clause-none : goal.returns-in_default-split_front-clause-none
returns-in_default-split_front-clause-none c = λ id more is same.
    c.in_default-split_front.ensures.none id (10 ∷ more) is (after_word c.args.text.now c.args.word.now c.in-Some.after.now id more c.in-Some.ensures.found same)

pub returns-in_default-strip_front-clause-none : goal.returns-in_default-strip_front-clause-none
returns-in_default-strip_front-clause-none c = λ id more is same.
    let ids = same_id c.in-Some-split_front.found.0 id c.in-Some-split_front.found.1.now (10 ∷ more) c.in-Some-split_front.ensures.valid is
    (sym c.in-Some-split_front.ensures.found ∙ after_word c.args.text.now c.args.word.now c.in-Some.after.now id more c.in-Some.ensures.found same) in
    c.in_default-strip_front.ensures.none more ids.1

pub returns-clause-found : goal.returns-clause-found
returns-clause-found c =
    let id = c.in-Some-split_front.found.0 in
    c.in-Some.ensures.found ∙ ap (λ (rest : List ℕ). c.args.word.now ++ rest) (c.in-Some-split_front.ensures.found
    ∙ ap (λ (rest : List ℕ). encode_lower id ++ rest) c.in-Some-strip_front.ensures.found) ∙ sym (id_line_then c.args.word.now id c.in-Some-strip_front.rest.now)
