use Rattle.std.proofs.Common.{◌≡◌, [], ◌∷◌, ℕ, List, codes, ap, sym, subst, ◌∙◌}
use Rattle.httparse.specs.Spans.{span_bytes}
use Rattle.desk_messages.specs.Lengths.{Gives, values_of}
use Rattle.desk_messages.specs.Parts.{IsOnly, pairs_at}
use Rattle.desk_messages.proofs.fields.said_length.Goals as goal

pub returns-in-Err-clause-bad : goal.returns-in-Err-clause-bad
returns-in-Err-clause-bad c = λ said says.
    let bytes = c.args.bytes.now in
    let values = values_of (codes "content-length") (pairs_at bytes c.args.fields.now) in
    let one : values ≡ span_bytes bytes c.in-Once.value ∷ [] = subst (IsOnly bytes values) c.in-Once.is c.only_named-2.ensures in
    let same : values ≡ c.part_at.result.now ∷ [] = one ∙ ap (λ (v : List ℕ). v ∷ []) (sym c.part_at.ensures) in
    c.in-Err.ensures.bad said (subst (λ (vs : List (List ℕ)). Gives vs said) same says.length)
