-- The names of a map's entries, read one after the other.
use Rattle.std.proofs.Common.{◌≡◌, ℕ, List, [], ◌∷◌, ◌++◌, Option, Some, None, refl, sym, ap, ◌∙◌, append_assoc}
use Rattle.std.specs.Prelude.{map, option_map, slice_get}
use Rattle.std.specs.List.{flat_map}
use Rattle.std.specs.FinMap.{entries}
use Rattle.std.proofs.lemmas.List.{append-nil}
use Rattle.std.proofs.lemmas.Option.{same_Some}
use Rattle.octets.specs.BytesMap.{BytesMap, entry_after}
use Rattle.keeper_api.specs.Changes.{ref_value}
use Rattle.keeper_api.specs.declared.changes.RefChange.{RefChange}
use Rattle.keeper_api.specs.declared.changes.RefValue.{RefValue}
use Rattle.clone_stream.specs.Reading.{last_of}
use Rattle.clone_stream.proofs.Entries.{next_entry}
use Rattle.mirror.specs.Changes.{going, going_one}

abbrev Ref : Type 0
Ref = List ℕ × List ℕ

-- the entries up to this name go, but for the mirror's own
pub record IsGoingTo (es : List Ref) (last : Option (List ℕ)) (gone : List RefChange) : Type 0 where
  pub first : List Ref
  pub rest : List Ref
  pub whole : es ≡ first ++ rest
  pub last_is : last ≡ last_of (map (λ (e : Ref). e.0) first)
  pub is : gone ≡ flat_map (λ (e : Ref). going_one e.0) first

pub none_gone : (es : List Ref) → IsGoingTo es None []
none_gone es = record { first = []; rest = es; whole = refl; last_is = refl; is = refl }

head_of : {A : Type 0} (xs : List A) (x : A) → slice_get xs 0 ≡ Some x → (ys : List A) × (xs ≡ x ∷ ys)
head_of [] x h = cc
head_of (y ∷ ys) x h = (ys, ap (λ z. z ∷ ys) (same_Some y x h))

none_of : {A : Type 0} (xs : List A) → slice_get xs 0 ≡ None → xs ≡ []
none_of [] h = refl
none_of (y ∷ ys) h = cc

last_push : (es : List Ref) (e : Ref) → Some e.0 ≡ last_of (map (λ (d : Ref). d.0) (es ++ e ∷ []))
last_push [] e = refl
last_push (d ∷ []) e = refl
last_push (d ∷ f ∷ es) e = last_push (f ∷ es) e

flat_push : {X Y : Type 0} (f : X → List Y) (xs : List X) (x : X) → flat_map f (xs ++ x ∷ []) ≡ flat_map f xs ++ f x
flat_push f [] x = append-nil (f x)
flat_push {Y = Y} f (y ∷ xs) x = ap (λ (rest : List Y). f y ++ rest) (flat_push f xs x) ∙ sym (append_assoc (f y) (flat_map f xs) (f x))

key_found : (o : Option Ref) (k : List ℕ) → Some k ≡ option_map (λ (e : Ref). e.0) o → (v : List ℕ) × (o ≡ Some (k, v))
key_found None k h = cc
key_found (Some e) k h = (e.1, ap (λ (q : List ℕ). Some (q, e.1)) (sym (same_Some k e.0 h)))

none_found : (o : Option Ref) → None ≡ option_map (λ (e : Ref). e.0) o → o ≡ None
none_found None h = refl
none_found (Some e) h = cc

-- the name of an entry that a store answers
pub name_of : (o : Option Ref) → option_map (λ (v : RefValue). v.name) (option_map ref_value o) ≡ option_map (λ (e : Ref). e.0) o
name_of None = refl
name_of (Some e) = refl

-- one name more
pub one_gone : (m : BytesMap (List ℕ)) (last : Option (List ℕ)) (gone : List RefChange) (name : List ℕ) → IsGoingTo (entries m) last gone
    → Some name ≡ option_map (λ (e : Ref). e.0) (entry_after m last) → IsGoingTo (entries m) (Some name) (gone ++ going_one name)
one_gone m last gone name so next =
    let entry = key_found (entry_after m last) name next in
    let tail = head_of so.rest (name, entry.0) (sym (next_entry m last so.first so.rest so.whole so.last_is) ∙ entry.1) in
    record {
      first = so.first ++ (name, entry.0) ∷ [];
      rest = tail.0;
      whole = so.whole ∙ ap (λ (t : List Ref). so.first ++ t) tail.1 ∙ sym (append_assoc so.first ((name, entry.0) ∷ []) tail.0);
      last_is = last_push so.first (name, entry.0);
      is = ap (λ (g : List RefChange). g ++ going_one name) so.is ∙ sym (flat_push (λ (e : Ref). going_one e.0) so.first (name, entry.0));
    }

-- no name more
pub all_gone : (m : BytesMap (List ℕ)) (last : Option (List ℕ)) (gone : List RefChange) → IsGoingTo (entries m) last gone
    → None ≡ option_map (λ (e : Ref). e.0) (entry_after m last) → gone ≡ going m
all_gone m last gone so next =
    let none = none_of so.rest (sym (next_entry m last so.first so.rest so.whole so.last_is) ∙ none_found (entry_after m last) next) in
    so.is ∙ ap (flat_map (λ (e : Ref). going_one e.0)) (sym (so.whole ∙ ap (λ (t : List Ref). so.first ++ t) none ∙ append-nil so.first))
