use Rattle.std.proofs.Common.{◌∷◌, ◌++◌, [], ℕ, List, Bool, true, false, ◌≡◌, sym, subst, ◌∙◌, if◌then◌else◌}
use Rattle.std.proofs.lemmas.List.{append-nil}
use Rattle.httparse.specs.Spans.{header_bytes}
use Rattle.desk_messages.specs.Lengths.{same_name}
use Rattle.desk_messages.specs.Parts.{IsOnly}
use Rattle.desk_messages.proofs.fields.with_field.Goals as goal

pub returns-then-is_named : goal.returns-then-is_named
returns-then-is_named c = λ values only.
    let bytes = c.args.bytes.now in
    let field = header_bytes bytes c.args.field in
    let named : same_name c.args.name.now field.0 ≡ true = sym c.is_named.ensures ∙ c.if-is_named.true in
    subst (λ (b : Bool). IsOnly bytes (values ++ (if b then field.1 ∷ [] else [])) c.one_more.result) (sym named) (c.one_more.ensures bytes values only)

pub returns : goal.returns
returns c = λ values only.
    let bytes = c.args.bytes.now in
    let field = header_bytes bytes c.args.field in
    let named : same_name c.args.name.now field.0 ≡ false = sym c.is_named.ensures ∙ c.if-is_named.false in
    subst (λ (b : Bool). IsOnly bytes (values ++ (if b then field.1 ∷ [] else [])) c.args.found) (sym named)
    (subst (λ (vs : List (List ℕ)). IsOnly bytes vs c.args.found) (sym (append-nil values)) only)
