use Rattle.std.proofs.Common.{◌∷◌, ◌++◌, [], ℕ, List, ◌≡◌, ap, subst}
use Rattle.httparse.specs.Spans.{span_bytes}
use Rattle.desk_messages.specs.Parts.{IsOnly}
use Rattle.desk_messages.proofs.fields.one_more.Goals as goal

pub returns-in-Once : goal.returns-in-Once
returns-in-Once c = λ bytes values only.
    let h : values ≡ span_bytes bytes c.in-Once.field-0 ∷ [] = subst (IsOnly bytes values) c.in-Once.is only in
    (span_bytes bytes c.in-Once.field-0, span_bytes bytes c.args.value, [], ap (λ (vs : List (List ℕ)). vs ++ span_bytes bytes c.args.value ∷ []) h)

pub returns-in-Often : goal.returns-in-Often
returns-in-Often c = λ bytes values only.
    let h : (a : List ℕ) × (b : List ℕ) × (rest : List (List ℕ)) × (values ≡ a ∷ b ∷ rest) = subst (IsOnly bytes values) c.in-Often.is only in
    (h.0, h.1, h.2 ++ span_bytes bytes c.args.value ∷ [], ap (λ (vs : List (List ℕ)). vs ++ span_bytes bytes c.args.value ∷ []) h.3)
