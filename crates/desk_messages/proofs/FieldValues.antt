-- The values of fields, as one field more is looked at.
use Rattle.std.proofs.Common.{◌≡◌, ◌<◌, ◌+◌, ℕ, List, [], ◌∷◌, ◌++◌, Bool, true, false, length, take, get_or, refl, ap, ◌∙◌, if◌then◌else◌}
use Rattle.std.proofs.lemmas.List.{take_more}
use Rattle.httparse.specs.declared.spans.HeaderSpan.{HeaderSpan}
use Rattle.httparse.specs.Spans.{header_bytes}
use Rattle.desk_messages.specs.Lengths.{same_name, values_of}
use Rattle.desk_messages.specs.Parts.{pairs_at}

values_if : (b : Bool) (value : List ℕ) (vs ws : List (List ℕ)) → (if b then value ∷ (vs ++ ws) else vs ++ ws) ≡ (if b then value ∷ vs else vs) ++ ws
values_if true value vs ws = refl
values_if false value vs ws = refl

pub values_append : (name : List ℕ) (xs ys : List (List ℕ × List ℕ)) → values_of name (xs ++ ys) ≡ values_of name xs ++ values_of name ys
values_append name [] ys = refl
values_append name (x ∷ xs) ys =
    ap (λ (rest : List (List ℕ)). if same_name name x.0 then x.1 ∷ rest else rest) (values_append name xs ys)
    ∙ values_if (same_name name x.0) x.1 (values_of name xs) (values_of name ys)

pairs_append : (bytes : List ℕ) (xs ys : List HeaderSpan) → pairs_at bytes (xs ++ ys) ≡ pairs_at bytes xs ++ pairs_at bytes ys
pairs_append bytes [] ys = refl
pairs_append bytes (x ∷ xs) ys = ap (λ (rest : List (List ℕ × List ℕ)). header_bytes bytes x ∷ rest) (pairs_append bytes xs ys)

-- one field more
pub next_values : (name bytes : List ℕ) (fields : List HeaderSpan) (i : ℕ) (field : HeaderSpan) → i < length fields
    → values_of name (pairs_at bytes (take (i + 1) fields)) ≡ values_of name (pairs_at bytes (take i fields)) ++ values_of name (header_bytes bytes (get_or fields i field) ∷ [])
next_values name bytes fields i field within =
    ap (λ (fs : List HeaderSpan). values_of name (pairs_at bytes fs)) (take_more fields i field within)
    ∙ ap (values_of name) (pairs_append bytes (take i fields) (get_or fields i field ∷ []))
    ∙ values_append name (pairs_at bytes (take i fields)) (header_bytes bytes (get_or fields i field) ∷ [])
