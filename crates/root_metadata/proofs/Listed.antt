-- Persons that are listed rise as their names do, and how one more is made.
use Rattle.std.proofs.Common.{◌≡◌, ◌+◌, ◌<◌, ◌==◌, ℕ, List, [], ◌∷◌, ◌++◌, Bool, true, false, get_or, length, map, take, refl, sym, ap, subst, ◌∙◌}
use Rattle.std.specs.Prelude.{Option, Some, None, cond, option_map}
use Rattle.std.specs.List.{AllByRecursion, cons_option, filter_map, find}
use Rattle.std.specs.List.Sorted.{IsStrictlySortedBy}
use Rattle.std.specs.Str.{bytes_eq}
use Rattle.std.specs.declared.cmp.Ordering.TheVariants.{Less}
use Rattle.std.proofs.lemmas.Slice.Eq.{bytes_eq-Decides}
use Rattle.std.proofs.lemmas.List.{map-id, take_more}
use Rattle.std.proofs.lemmas.List.Elements.{filter_map-append}
use Rattle.octets.specs.BytesMap.{by_bytes}
use Rattle.json_fields.specs.Hexadecimal.{hex_bytes}
use Rattle.root_metadata.specs.Judged.{is_named}
use Rattle.root_metadata.specs.Made.{person_made, persons_made}
use Rattle.root_metadata.specs.Risings.{IsRising}
use Rattle.root_metadata.specs.declared.persons.Person.{Person}
use Rattle.root_metadata.specs.declared.raw.Roster.{Roster}

found_here : (b : Bool) (name : List ℕ) (q p : Person) (rest : Option Person) → (b ≡ true → q.name ≡ name) → (rest ≡ Some p → p.name ≡ name) → cond b (Some q) rest ≡ Some p → p.name ≡ name
found_here true name q p rest here later is = let same : q ≡ p = cc in ap (λ (r : Person). r.name) (sym same) ∙ here refl
found_here false name q p rest here later is = later is

found_name : (ps : List Person) (name : List ℕ) (p : Person) → find (is_named name) ps ≡ Some p → p.name ≡ name
found_name [] name p is = cc
found_name (q ∷ ps) name p is =
    found_here (bytes_eq q.name name) name q p (find (is_named name) ps) (λ h. (bytes_eq-Decides q.name name).0 h) (found_name ps name p) is

only_name : (name : List ℕ) (id : Option (List ℕ)) (p : Person) → option_map (λ i. record { name = name; keyids = i ∷ [] }) id ≡ Some p → p.name ≡ name
only_name name None p is = cc
only_name name (Some id) p is =
    let one : Person = record { name = name; keyids = id ∷ [] } in
    let same : one ≡ p = cc in ap (λ (r : Person). r.name) (sym same)

by_schema : (b : Bool) (name : List ℕ) (r s : Option Person) (p : Person) → (r ≡ Some p → p.name ≡ name) → (s ≡ Some p → p.name ≡ name) → cond b r s ≡ Some p → p.name ≡ name
by_schema true name r s p h k is = h is
by_schema false name r s p h k is = k is

made_name : (roster : Roster) (name : List ℕ) (p : Person) → person_made roster name ≡ Some p → p.name ≡ name
made_name roster name p is =
    by_schema (roster.schema == 1) name (option_map (λ i. record { name = name; keyids = i ∷ [] }) (hex_bytes 32 name)) (find (is_named name) roster.persons) p (only_name name (hex_bytes 32 name) p) (found_name roster.persons name p) is

name_of : Person → List ℕ
name_of p = p.name

below_one : (n m : List ℕ) (o : Option Person) → ((p : Person) → o ≡ Some p → p.name ≡ m) → by_bytes n m ≡ Less → (rest : List Person)
    → AllByRecursion (λ k. by_bytes n k ≡ Less) (map (λ p. p.name) rest) → AllByRecursion (λ k. by_bytes n k ≡ Less) (map (λ p. p.name) (cons_option o rest))
below_one n m None h less rest all = all
below_one n m (Some p) h less rest all = (subst (λ (k : List ℕ). by_bytes n k ≡ Less) (sym (h p refl)) less, all)

rising_one : (n : List ℕ) (o : Option Person) → ((p : Person) → o ≡ Some p → p.name ≡ n) → (rest : List Person)
    → AllByRecursion (λ k. by_bytes n k ≡ Less) (map (λ p. p.name) rest) → IsRising (λ p. p.name) rest → IsRising (λ p. p.name) (cons_option o rest)
unfolding IsStrictlySortedBy
rising_one n None h rest all is = is
rising_one n (Some p) h rest all is = (subst (λ (m : List ℕ). AllByRecursion (λ k. by_bytes m k ≡ Less) (map (λ (q : Person). q.name) rest)) (sym (h p refl)) all, is)

module _ (f : List ℕ → Option Person) (named : (n : List ℕ) (p : Person) → f n ≡ Some p → p.name ≡ n) where
  below : (n : List ℕ) (ns : List (List ℕ)) → AllByRecursion (λ k. by_bytes n k ≡ Less) ns → AllByRecursion (λ k. by_bytes n k ≡ Less) (map (λ p. p.name) (filter_map f ns))
  below n [] all = tt
  below n (m ∷ ns) all = below_one n m (f m) (named m) all.0 (filter_map f ns) (below n ns all.1)

  rising_from : (ns : List (List ℕ)) → IsStrictlySortedBy by_bytes ns → IsRising (λ p. p.name) (filter_map f ns)
  unfolding IsStrictlySortedBy
  rising_from [] is = tt
  rising_from (n ∷ ns) is = rising_one n (f n) (named n) (filter_map f ns) (below n ns is.0) (rising_from ns is.1)

pub rising_listed : (roster : Roster) (names : List (List ℕ)) (made : List Person) → made ≡ persons_made roster names → IsRising (λ n. n) names → IsRising (λ p. p.name) made
rising_listed roster names made same is =
    rw same (rising_from (person_made roster) (made_name roster) names (subst (IsStrictlySortedBy by_bytes) (map-id names) is))

-- one more that is made, if it is one
pub some_more : {A B : Type 0} (f : A → Option B) (xs : List A) (i : ℕ) (x : A) (old new : List B) (o : Option B) → i < length xs → x ≡ get_or xs i x → o ≡ f x
    → new ≡ old ++ cons_option o [] → old ≡ filter_map f (take i xs) → new ≡ filter_map f (take (i + 1) xs)
some_more {A} f xs i x old new o within is made added before =
    let split : take (i + 1) xs ≡ take i xs ++ x ∷ [] = take_more xs i x within ∙ ap (λ (y : A). take i xs ++ y ∷ []) (sym is) in
    added ∙ ap (λ ys. ys ++ cons_option o []) before ∙ ap (λ q. filter_map f (take i xs) ++ cons_option q []) made
    ∙ sym (filter_map-append f (take i xs) (x ∷ [])) ∙ ap (filter_map f) (sym split)
