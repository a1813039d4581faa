-- Object records that stand whole in front of a text, one after the other.
use Rattle.std.proofs.Common.{◌≡◌, ℕ, List, [], ◌∷◌, ◌++◌, length, take, refl, sym, ap, ◌∙◌, append_assoc}
use Rattle.std.specs.Prelude.{decimal}
use Rattle.std.proofs.lemmas.List.{append-nil}
use Rattle.object_lanes.specs.declared.heads.Unnamed.{Unnamed}
use Rattle.clone_stream.specs.Grouped.{AreClaims, IsClaim, claimed_record, claimed_text}
use Rattle.clone_stream.specs.Streams.{object_line}
use Rattle.clone_stream.specs.declared.whole_records.Claim.{Claim}

text_push : (cs : List Claim) (os : List Unnamed) (c : Claim) (o : Unnamed) → AreClaims cs os → claimed_text (cs ++ c ∷ []) (os ++ o ∷ []) ≡ claimed_text cs os ++ claimed_record c o
text_push [] [] c o are = append-nil (claimed_record c o)
text_push [] (p ∷ os) c o are = absurd are
text_push (d ∷ cs) [] c o are = absurd are
text_push (d ∷ cs) (p ∷ os) c o are =
    ap (λ (t : List ℕ). claimed_record d p ++ t) (text_push cs os c o are.1) ∙ sym (append_assoc (claimed_record d p) (claimed_text cs os) (claimed_record c o))

-- one claim more
pub claims_push : (cs : List Claim) (os : List Unnamed) (c : Claim) (o : Unnamed) → AreClaims cs os → IsClaim c o → AreClaims (cs ++ c ∷ []) (os ++ o ∷ [])
claims_push [] [] c o are is = (is, tt)
claims_push [] (p ∷ os) c o are is = absurd are
claims_push (d ∷ cs) [] c o are is = absurd are
claims_push (d ∷ cs) (p ∷ os) c o are is = (are.0, claims_push cs os c o are.1 is)

-- a line, a body and what follows, as a record and what follows
as_record : (line body more : List ℕ) → line ++ 10 ∷ (body ++ 10 ∷ more) ≡ (line ++ 10 ∷ (body ++ 10 ∷ [])) ++ more
as_record line body more = sym (append_assoc line (10 ∷ (body ++ 10 ∷ [])) more ∙ ap (λ (t : List ℕ). line ++ 10 ∷ t) (append_assoc body (10 ∷ []) more))

-- the record in front of a text
pub in_front : (c : Claim) (o : Unnamed) (size : ℕ) (text more : List ℕ) → length o.body ≡ size → text ≡ object_line c.id o.kind (decimal size) ++ 10 ∷ (o.body ++ 10 ∷ more)
    → text ≡ claimed_record c o ++ more
in_front c o size text more long e =
    e ∙ ap (λ (n : ℕ). object_line c.id o.kind (decimal n) ++ 10 ∷ (o.body ++ 10 ∷ more)) (sym long) ∙ as_record (object_line c.id o.kind (decimal (length o.body))) o.body more

-- one record more
pub stand_push : (cs : List Claim) (os : List Unnamed) (c : Claim) (o : Unnamed) (text rest more : List ℕ) → AreClaims cs os → text ≡ claimed_text cs os ++ rest → rest ≡ claimed_record c o ++ more
    → text ≡ claimed_text (cs ++ c ∷ []) (os ++ o ∷ []) ++ more
stand_push cs os c o text rest more are whole e =
    whole ∙ ap (λ (t : List ℕ). claimed_text cs os ++ t) e ∙ sym (append_assoc (claimed_text cs os) (claimed_record c o) more)
    ∙ ap (λ (t : List ℕ). t ++ more) (sym (text_push cs os c o are))

take_front : (a b : List ℕ) → take (length a) (a ++ b) ≡ a
take_front [] b = refl
take_front (x ∷ a) b = ap (λ (t : List ℕ). x ∷ t) (take_front a b)

-- a front by its length
pub front_of : (n : ℕ) (text a b : List ℕ) → n ≡ length a → text ≡ a ++ b → take n text ≡ a
front_of n text a b long e = (λ i. take (long i) (e i)) ∙ take_front a b
