-- Places in a list that gains and loses a last item.
use Rattle.std.proofs.Common.{◌≡◌, ℕ, ◌+◌, ◌-◌, ◌<◌, Bool, true, false, ◌||◌, cond, List, [], ◌∷◌, ◌++◌, Option, Some, None, suc, length, take, refl, sym, ap}
use Rattle.std.proofs.Common.{◌∙◌, arith}
use Rattle.std.proofs.lemmas.List.{length_push, take_at}
use Rattle.std.specs.Prelude.{IfSome, is_some, slice_get}
use Rattle.std.specs.Option.{option_map}
use Rattle.std.specs.Str.{bytes_eq}
use Rattle.std.proofs.lemmas.Slice.Eq.{bytes_eq-Decides}
use Prim.Native.Nat as Nat
use Rattle.std.proofs.lemmas.Bool.{true≢false}
use Rattle.placed_items.specs.Places.{FirstPlace, has_id, place_of, placed_last}

module _ {T : Type 0} (id : T → List ℕ) where
  some_map : (b : Bool) (o : Option ℕ) → is_some (cond b (Some 0) (option_map (λ n. n + 1) o)) ≡ (b || is_some o)
  some_map true o = refl
  some_map false None = refl
  some_map false (Some n) = refl

  -- an id has a place where an item stands under it
  pub has_place : (items : List T) (wanted : List ℕ) → is_some (place_of id items wanted) ≡ has_id id items wanted
  has_place [] wanted = refl
  has_place (item ∷ items) wanted =
      some_map (bytes_eq (id item) wanted) (place_of id items wanted) ∙ ap (λ (b : Bool). bytes_eq (id item) wanted || b) (has_place items wanted)

  within_map : (b : Bool) (o : Option ℕ) (count n : ℕ) → ((m : ℕ) → o ≡ Some m → m < count) → cond b (Some 0) (option_map (λ m. m + 1) o) ≡ Some n
      → n < count + 1
  within_map true o count n small e = let same : 0 ≡ n = cc in omega (arith, same)
  within_map false None count n small e = absurd (cc e)
  within_map false (Some m) count n small e = let same : m + 1 ≡ n = cc in let less = small m refl in omega (arith, same, less)

  -- a place is one of the list
  pub place_within : (items : List T) (wanted : List ℕ) (n : ℕ) → place_of id items wanted ≡ Some n → n < length items
  place_within [] wanted n e = absurd (cc e)
  place_within (item ∷ items) wanted n e =
      let less = within_map (bytes_eq (id item) wanted) (place_of id items wanted) (length items) n (place_within items wanted) e in
      omega (arith, less)

  there_map : (x : T) (xs : List T) (wanted : List ℕ) (b : Bool) (o : Option ℕ) (n : ℕ) → bytes_eq (id x) wanted ≡ b
      → ((m : ℕ) → o ≡ Some m → option_map id (slice_get xs m) ≡ Some wanted)
      → cond b (Some 0) (option_map (λ m. m + 1) o) ≡ Some n → option_map id (slice_get (x ∷ xs) n) ≡ Some wanted
  there_map x xs wanted true o n is there e =
      let same : 0 ≡ n = cc e in
      ap (λ (k : ℕ). option_map id (slice_get (x ∷ xs) k)) (sym same) ∙ ap Some ((bytes_eq-Decides (id x) wanted).0 is)
  there_map x xs wanted false None n is there e = absurd (cc e)
  there_map x xs wanted false (Some m) n is there e =
      let same : m + 1 ≡ n = cc e in
      let next : n ≡ suc m = omega (arith, same) in
      ap (λ (k : ℕ). option_map id (slice_get (x ∷ xs) k)) next ∙ there m refl

  -- the item at the place of an id stands under it
  pub place_there : (items : List T) (wanted : List ℕ) (n : ℕ) → place_of id items wanted ≡ Some n → option_map id (slice_get items n) ≡ Some wanted
  place_there [] wanted n e = absurd (cc e)
  place_there (item ∷ items) wanted n e = there_map item items wanted (bytes_eq (id item) wanted) (place_of id items wanted) n refl (place_there items wanted)
      e

  first_map : (x : T) (xs : List T) (wanted : List ℕ) (b : Bool) (o : Option ℕ) (n m : ℕ) → bytes_eq (id x) wanted ≡ b
      → ((k j : ℕ) → o ≡ Some k → j < k → option_map id (slice_get xs j) ≡ Some wanted → ⊥)
      → cond b (Some 0) (option_map (λ k. k + 1) o) ≡ Some n → m < n → option_map id (slice_get (x ∷ xs) m) ≡ Some wanted → ⊥
  first_map x xs wanted true o n m is none e less there = let same : 0 ≡ n = cc e in absurd (omega (arith, same, less))
  first_map x xs wanted false None n m is none e less there = absurd (cc e)
  first_map x xs wanted false (Some k) n Nat.zero is none e less there =
      let same : id x ≡ wanted = cc there in
      absurd (true≢false (sym ((bytes_eq-Decides (id x) wanted).1 same) ∙ is))
  first_map x xs wanted false (Some k) n (suc j) is none e less there =
      let same : k + 1 ≡ n = cc e in
      none k j refl (omega (arith, same, less)) there

  first_of : (items : List T) (wanted : List ℕ) (n m : ℕ) → place_of id items wanted ≡ Some n → m < n → option_map id (slice_get items m) ≡ Some wanted → ⊥
  first_of [] wanted n m e less there = absurd (cc e)
  first_of (item ∷ items) wanted n m e less there =
      first_map item items wanted (bytes_eq (id item) wanted) (place_of id items wanted) n m refl (first_of items wanted) e less there

  pub first_place : FirstPlace id
  first_place = record { there = place_there; first = first_of; none = λ items wanted e. sym (has_place items wanted) ∙ ap is_some e }

  -- ---- a last item

  later : (o : Option ℕ) (b : Bool) (count : ℕ) → option_map (λ n. n + 1) (placed_last o b count) ≡ placed_last (option_map (λ n. n + 1) o) b (count + 1)
  later (Some n) b count = refl
  later None true count = refl
  later None false count = refl

  first : (c b : Bool) (o : Option ℕ) (count : ℕ) → cond c (Some 0) (placed_last o b count) ≡ placed_last (cond c (Some 0) o) b count
  first true b o count = refl
  first false b o count = refl

  pub placed_push : (items : List T) (last : T) (wanted : List ℕ)
      → place_of id (items ++ last ∷ []) wanted ≡ placed_last (place_of id items wanted) (bytes_eq (id last) wanted) (length items)
  placed_push [] last wanted = refl
  placed_push (item ∷ items) last wanted =
      let b : Bool = bytes_eq (id last) wanted in
      let o : Option ℕ = place_of id items wanted in
      ap (λ (p : Option ℕ). cond (bytes_eq (id item) wanted) (Some 0) (option_map (λ n. n + 1) p)) (placed_push items last wanted)
      ∙ ap (cond (bytes_eq (id item) wanted) (Some 0)) (later o b (length items))
      ∙ first (bytes_eq (id item) wanted) b (option_map (λ n. n + 1) o) (length items + 1)
      ∙ ap (placed_last (cond (bytes_eq (id item) wanted) (Some 0) (option_map (λ n. n + 1) o)) b) (count_is (length items))
    where
      count_is : (n : ℕ) → n + 1 ≡ suc n
      count_is n = omega arith

pub if_within : (o : Option ℕ) (count : ℕ) → ((n : ℕ) → o ≡ Some n → n < count) → IfSome o (λ n. n < count)
if_within None count f = tt
if_within (Some n) count f = f n refl

pub front_of : {X : Type 0} (xs : List X) (x : X) → take (length (xs ++ x ∷ []) - 1) (xs ++ x ∷ []) ≡ xs
front_of xs x = take_at xs (x ∷ []) (length (xs ++ x ∷ []) - 1) (let e = length_push xs x in omega arith)
