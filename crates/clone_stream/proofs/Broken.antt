-- What was told ahead of a reader, and what breaks there.
use Rattle.std.proofs.Common.{◌≡◌, ◌≢◌, length, ℕ, List, [], ◌∷◌, ◌++◌, Option, Some, None, inr, refl, sym, ap, ◌∙◌, subst, append_assoc}
use Rattle.std.specs.Prelude.{IfErr, IfSome, Ok, Err, Result}
use Rattle.octets.specs.Content.{with_front}
use Rattle.buffered_reader.specs.Lines.{IsLine}
use Rattle.git_object.specs.Objects.{object_id}
use Rattle.git_object.specs.declared.kinds.Kind.{Kind}
use Rattle.clone_stream.specs.Breaks.{BreaksBody, BreaksLine}
use Rattle.clone_stream.specs.Grammar.{BreaksGrammar}
use Rattle.clone_stream.specs.declared.stream_faults.Break.{Break}
use Rattle.clone_stream.specs.declared.stream_faults.Break.TheVariants.{BadLine, IdDiffers, Order, TooLarge, Cut, Failed, Memory}

-- what holds of all that goes on after a front holds of what is told
pub told : (P : List ℕ → Type 0) (o after : Option (List ℕ)) (front : List ℕ) → o ≡ with_front front after → ((more : List ℕ) → after ≡ Some more → P (front ++ more)) → IfSome o P
told P o None front e h = subst (λ (p : Option (List ℕ)). IfSome p P) (sym e) tt
told P o (Some more) front e h = subst (λ (p : Option (List ℕ)). IfSome p P) (sym e) (h more refl)

-- a line that is wrong breaks there
pub breaks_line : (at : ℕ) (line more : List ℕ) (fault : Break) → IsLine line → BreaksGrammar at line fault → BreaksLine at ((line ++ 10 ∷ []) ++ more) fault
breaks_line at line more (BadLine p) is bad = (bad.0, inr (record { line = line; more = more; whole = append_assoc line (10 ∷ []) more; is_line = is; wrong = bad.1 }))
breaks_line at line more (IdDiffers id found) is bad = bad
breaks_line at line more (Order p) is bad = bad
breaks_line at line more (TooLarge limit) is bad = (bad.0, record { line = line; more = more; whole = append_assoc line (10 ∷ []) more; is_line = is; wrong = bad.1 })
breaks_line at line more (Cut p) is bad = absurd bad
breaks_line at line more (Failed p) is bad = absurd bad
breaks_line at line more Memory is bad = record { name = bad.name; id = bad.id; more = more; whole = append_assoc line (10 ∷ []) more ∙ ap (λ (l : List ℕ). l ++ 10 ∷ more) bad.is; is_ref = bad.is_ref }

pub wrong_line : {T : Type 0} (r : Result T Break) (o after : Option (List ℕ)) (at : ℕ) (line : List ℕ) → IsLine line → o ≡ with_front (line ++ 10 ∷ []) after → IfErr r (BreaksGrammar at line)
    → IfErr r (λ fault. IfSome o (λ rest. BreaksLine at rest fault))
wrong_line (Ok x) o after at line is e bad = tt
wrong_line (Err fault) o after at line is e bad = told (λ rest. BreaksLine at rest fault) o after (line ++ 10 ∷ []) e (λ more _. breaks_line at line more fault is bad)

-- a body with another id breaks there
pub other_id : (o after : Option (List ℕ)) (id : List ℕ) (kind : Kind) (size at : ℕ) (body found : List ℕ) → o ≡ with_front (body ++ 10 ∷ []) after → length body ≡ size → found ≡ object_id kind body → found ≢ id
    → IfSome o (λ rest. BreaksBody id kind size at rest (IdDiffers id found))
other_id o after id kind size at body found e long is other =
    told (λ rest. BreaksBody id kind size at rest (IdDiffers id found)) o after (body ++ 10 ∷ []) e
    (λ more _. (refl, record { body = body; more = more; whole = append_assoc body (10 ∷ []) more; long = long; is = is; other = other }))
