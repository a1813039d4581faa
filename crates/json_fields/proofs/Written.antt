-- Lists of values that are each made of an item.
use Rattle.std.proofs.Common.{◌≡◌, ◌+◌, ◌<◌, ◌≤◌, ℕ, List, [], ◌∷◌, ◌++◌, All, false, get_or, length, map, take, refl, ap, sym, subst, ◌∙◌, arith}
use Rattle.std.specs.Prelude.{IfOk, Result, Some}
use Rattle.std.proofs.lemmas.List.{map-append, map_more}
use Rattle.std.proofs.lemmas.List.Elements.{All-more}
use Rattle.std.proofs.lemmas.Result.{IfOk-weaker}
use Rattle.serde_json.specs.Data.{Data, depth, items_depth}
use Rattle.serde_json.specs.Read.{max_depth}
use Rattle.serde_json.specs.View.{items_of, view}
use Rattle.serde_json.specs.Written.{compact_text, has_float, items_have_float}
use Rattle.serde_json.specs.declared.value.Value.{Value}
use Rattle.json_fields.specs.Json.{json_of}

-- what they are made of decides whether there is a float among them, and how deep they nest
pub no_float : {A : Type 0} (f : A → Data) → ((x : A) → has_float (f x) ≡ false) → (xs : List A) → items_have_float (items_of (map f xs)) ≡ false
no_float f h [] = refl
no_float f h (x ∷ xs) = rw (h x) (no_float f h xs)

pub as_deep : {A : Type 0} (f : A → Data) (n : ℕ) → ((x : A) → depth (f x) ≤ n) → (xs : List A) → items_depth (items_of (map f xs)) ≤ n
as_deep f n h [] = omega arith
as_deep f n h (x ∷ xs) = let one = h x in let more = as_deep f n h xs in omega arith

-- of an item, of one more item, of one more value
pub item_has : {A : Type 0} (P : A → Type 0) (xs : List A) (i : ℕ) (x : A) → All P xs → i < length xs → x ≡ get_or xs i x → P x
item_has P xs i x h within is = subst P (sym is) (h i x within)

pub all_more : {A : Type 0} (P : A → Type 0) (xs : List A) (i : ℕ) (x : A) → i < length xs → x ≡ get_or xs i x → P x → All P (take i xs) → All P (take (i + 1) xs)
all_more P xs i x within is one before = All-more P xs i x within before (subst P is one)

pub values_more : {A : Type 0} (f : A → Data) (old new : List Value) (v : Value) (xs : List A) (i : ℕ) (x : A) → i < length xs → x ≡ get_or xs i x → view v ≡ f x → new ≡ old ++ v ∷ []
    → map view old ≡ map f (take i xs) → map view new ≡ map f (take (i + 1) xs)
values_more f old new v xs i x within is made pushed before =
    ap (map view) pushed ∙ map-append view old (v ∷ []) ∙ ap (λ vs. vs ++ view v ∷ []) before ∙ ap (λ d. map f (take i xs) ++ d ∷ []) (made ∙ ap f is) ∙ sym (map_more f xs i x within)

-- what is written for a value, under the name that a format has for the value
pub exact_text : {E : Type 0} (r : Result (List ℕ) E) (v d : Data) → v ≡ d → has_float d ≡ false → IfOk r (λ t. has_float v ≡ false → t ≡ compact_text v) → IfOk r (λ t. t ≡ compact_text d)
exact_text r v d is none h = IfOk-weaker r _ _ (λ t made. made (ap has_float is ∙ none) ∙ ap compact_text is) h

pub json_text : {E : Type 0} (r : Result (List ℕ) E) (v d : Data) → v ≡ d → depth d ≤ max_depth → IfOk r (λ t. depth v ≤ max_depth → json_of t ≡ Some v) → IfOk r (λ t. json_of t ≡ Some d)
json_text r v d is deep h = IfOk-weaker r _ _ (λ t made. made (rw is deep) ∙ ap Some is) h
