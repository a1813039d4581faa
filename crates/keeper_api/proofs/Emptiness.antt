-- A repository without a first object and a first reference.
use Rattle.std.proofs.Common.{◌≡◌, ◌↔◌, IsTrue, Bool, true, false, not, is_some, ℕ, List, [], ◌∷◌, Option, Some, None, refl, sym, ap, ◌∙◌, length, arith}
use Rattle.std.proofs.lemmas.Bool.{false≢true}
use Rattle.std.specs.FinMap.{empty, empty_of_len, entries, len-empty, len-entries}
use Rattle.std.specs.List.{slice_get}
use Rattle.std.specs.Option.{option_map}
use Rattle.octets.specs.BytesMap.{BytesMap, entry_after}
use Rattle.git_object.specs.Objects.{Pair}
use Rattle.git_object.specs.Repository.{Repository, empty_repository}
use Rattle.keeper_api.specs.Changes.{ref_value}
use Rattle.keeper_api.specs.declared.changes.RefValue.{RefValue}

none_at_first : {A B : Type 0} (f : A → B) (es : List A) → None ≡ option_map f (slice_get es 0) → length es ≡ 0
none_at_first f [] e = refl
none_at_first f (x ∷ es) e = cc

no_first : {A B : Type 0} (f : A → B) (es : List A) → length es ≡ 0 → option_map f (slice_get es 0) ≡ None
no_first f [] e = refl
no_first f (x ∷ es) e = absurd (omega arith)

module _ {X B : Type 0} (f : List ℕ × X → B) where
  pub empty_from_none : (m : BytesMap X) → None ≡ option_map f (entry_after m None) → m ≡ empty
  empty_from_none m e = empty_of_len m (len-entries m ∙ none_at_first f (entries m) e)

  pub none_of_empty : option_map f (entry_after {X = X} empty None) ≡ None
  none_of_empty = no_first f (entries empty) (sym (len-entries empty) ∙ len-empty _ X)

none_of : {A : Type 0} (o : Option A) → is_some o ≡ false → o ≡ None
none_of None e = refl
none_of (Some x) e = cc

-- an object that was found stands in no empty repository
pub first_found : (r : Repository) (found : Option (List ℕ)) → is_some found ≡ true → found ≡ option_map (λ e. e.0) (entry_after r.objects None) → r ≡ empty_repository → ⊥
first_found r found there is e =
    let none : found ≡ None = is ∙ ap (λ (x : Repository). option_map (λ e. e.0) (entry_after x.objects None)) e ∙ none_of_empty (λ (e : List ℕ × Pair). e.0) in
    absurd (false≢true (sym (ap is_some none) ∙ there))

-- where there is no first object, the repository is empty exactly where there is no first reference
pub neither_found : (r : Repository) (object : Option (List ℕ)) (ref : Option RefValue) (none : Bool) → is_some object ≡ false → is_some ref ≡ not none
    → object ≡ option_map (λ e. e.0) (entry_after r.objects None) → ref ≡ option_map ref_value (entry_after r.refs None) → IsTrue none ↔ (r ≡ empty_repository)
neither_found r object ref true no_object no_ref is_object is_ref =
    let objects : r.objects ≡ empty = empty_from_none (λ (e : List ℕ × Pair). e.0) r.objects (sym (none_of object no_object) ∙ is_object) in
    let refs : r.refs ≡ empty = empty_from_none ref_value r.refs (sym (none_of ref no_ref) ∙ is_ref) in
    (λ _. λ i. record { objects = objects i; refs = refs i }, λ _. refl)
neither_found r object ref false no_object a_ref is_object is_ref =
    let refuse : r ≡ empty_repository → ⊥ = λ e.
    let none : ref ≡ None = is_ref ∙ ap (λ (x : Repository). option_map ref_value (entry_after x.refs None)) e ∙ none_of_empty ref_value in
    absurd (false≢true (sym (ap is_some none) ∙ a_ref))
    in
    (λ f. absurd (false≢true f), λ e. absurd (refuse e))
