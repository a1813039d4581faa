-- Items one after the other: how many there are, and the signatures that they are read as.
use Rattle.std.proofs.Common.{◌≡◌, All, ℕ, subst, suc, ◌+◌, ◌<◌, List, [], ◌∷◌, ◌++◌, length, drop, get_or, refl, sym, ap, ◌∙◌, append_assoc, length-append}
use Rattle.std.specs.Prelude.{Option, Some, None, option_and_then}
use Rattle.std.specs.Option.{option_map}
use Rattle.std.proofs.lemmas.List.{drop_more}
use Rattle.std.proofs.lemmas.List.Elements.{All-append, All-cons, All-nil}
use Rattle.serde_json.specs.View.{items_view, view}
use Rattle.serde_json.specs.declared.value.Value.{Value}
use Rattle.dsse_envelope.specs.Envelopes.{after, count_of, signature_of, signatures_of}
use Rattle.dsse_envelope.specs.Written.{HasTextId}
use Rattle.dsse_envelope.specs.declared.envelope.Signature.{Signature}

pub count_is : (vs : List Value) → length vs ≡ count_of (items_view vs)
count_is [] = refl
count_is (v ∷ vs) = ap suc (count_is vs)

-- one signature more
grown : (front : List Signature) (s : Signature) (rest : Option (List Signature)) → after (front ++ s ∷ []) rest ≡ after front (option_map (λ ss. s ∷ ss) rest)
grown front s None = refl
grown front s (Some ss) = ap Some (append_assoc front (s ∷ []) ss)

pub signature_read : (front new : List Signature) (s : Signature) (vs : List Value) (at : ℕ) (v : Value) → at < length vs → v ≡ get_or vs at v → signature_of (view v) ≡ Some s → new ≡ front ++ s ∷ []
    → after new (signatures_of (items_view (drop (at + 1) vs))) ≡ after front (signatures_of (items_view (drop at vs)))
signature_read front new s vs at v within is found pushed =
    let rest = signatures_of (items_view (drop (at + 1) vs)) in
    let split : drop at vs ≡ v ∷ drop (at + 1) vs = drop_more vs at v within ∙ ap (λ (w : Value). w ∷ drop (at + 1) vs) (sym is) in
    let whole : signatures_of (items_view (drop at vs)) ≡ option_map (λ ss. s ∷ ss) rest =
    ap (λ (l : List Value). signatures_of (items_view l)) split ∙ ap (λ (o : Option Signature). option_and_then (λ t. option_map (λ ss. t ∷ ss) rest) o) found in
    ap (λ (l : List Signature). after l rest) pushed ∙ grown front s rest ∙ ap (after front) (sym whole)

pub ids_more : (old new : List Signature) (s : Signature) → new ≡ old ++ s ∷ [] → HasTextId s → All HasTextId old → All HasTextId new
ids_more old new s pushed one before = subst (All HasTextId) (sym pushed) (All-append HasTextId old (s ∷ []) before (All-cons HasTextId s [] one (All-nil HasTextId)))

pub count_more : (old new : List Signature) (s : Signature) (n : ℕ) → new ≡ old ++ s ∷ [] → length old ≡ n → length new ≡ n + 1
count_more old new s n pushed before = ap length pushed ∙ length-append old (s ∷ []) ∙ ap (λ m. m + 1) before
