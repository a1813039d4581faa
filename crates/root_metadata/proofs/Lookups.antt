-- The sets that keys and persons are found by have what the lists have.
use Rattle.std.proofs.Common.{◌≡◌, ℕ, List, [], ◌∷◌, refl, sym, ap, ◌∙◌}
use Rattle.std.specs.Prelude.{◌==◌, ◌||◌, Bool, true, false, not, Option, Some, None, map, if◌then◌else◌}
use Rattle.std.specs.BTreeSet.{insert_key}
use Rattle.std.specs.FinMap.{nat_cmp-IsAntisymmetric, slice_cmp-IsAntisymmetric}
use Rattle.std.specs.List.{list_all, list_any}
use Rattle.std.specs.Ordering.{match_ordering}
use Rattle.std.specs.Str.{bytes_eq}
use Rattle.std.specs.declared.cmp.Ordering.{Ordering}
use Rattle.std.specs.declared.cmp.Ordering.TheVariants.{Less, Equal, Greater}
use Rattle.octets.specs.BytesMap.{by_bytes}
use Rattle.json_fields.specs.Hexadecimal.{hex_bytes}
use Rattle.root_metadata.specs.Judged.{has_few_ids, is_bad_person, is_known, is_listed, is_listed_id, is_name, is_named}
use Rattle.root_metadata.specs.Lookups.{IsIndex, has_id, is_bad_beside, is_found}
use Rattle.root_metadata.specs.Risings.{has_key}
use Rattle.root_metadata.specs.Shapes.{into_set, set_of}
use Rattle.root_metadata.specs.declared.known.Known.{Known}
use Rattle.root_metadata.specs.declared.persons.Person.{Person}
use Rattle.root_metadata.specs.declared.raw.RawKey.{RawKey}
use Rattle.root_metadata.specs.declared.raw.Roster.{Roster}

-- ---- sets

abbrev has : List (List ℕ) → List ℕ → Bool
has xs x = has_key (λ k. k) xs x

twice : (a b : Bool) → (a || b) ≡ (a || (a || b))
twice true b = refl
twice false b = refl

exchanged : (a b c : Bool) → (b || (a || c)) ≡ (a || (b || c))
exchanged true true c = refl
exchanged true false c = refl
exchanged false true c = refl
exchanged false false c = refl

regrouped : (a b c : Bool) → (a || (b || c)) ≡ ((b || a) || c)
regrouped true true c = refl
regrouped true false c = refl
regrouped false true c = refl
regrouped false false c = refl

nothing_more : (a : Bool) → (a || false) ≡ a
nothing_more true = refl
nothing_more false = refl

module _ (x : List ℕ) where
  at_place : (o : Ordering) (k y : List ℕ) (ys more : List (List ℕ)) → (o ≡ Equal → k ≡ y) → has more x ≡ (bytes_eq k x || has ys x)
      → has (match_ordering o (k ∷ y ∷ ys) (y ∷ ys) (y ∷ more)) x ≡ (bytes_eq k x || has (y ∷ ys) x)
  at_place Less k y ys more same later = refl
  at_place Equal k y ys more same later = twice (bytes_eq y x) (has ys x) ∙ ap (λ (key : List ℕ). bytes_eq key x || has (y ∷ ys) x) (sym (same refl))
  at_place Greater k y ys more same later = ap (λ (b : Bool). bytes_eq y x || b) later ∙ exchanged (bytes_eq k x) (bytes_eq y x) (has ys x)

  inserted : (k : List ℕ) (ys : List (List ℕ)) → has (insert_key by_bytes ys k) x ≡ (bytes_eq k x || has ys x)
  inserted k [] = refl
  inserted k (y ∷ ys) = at_place (by_bytes k y) k y ys (insert_key by_bytes ys k) (slice_cmp-IsAntisymmetric nat_cmp-IsAntisymmetric k y) (inserted k ys)

  into : (found xs : List (List ℕ)) → has (into_set found xs) x ≡ (has xs x || has found x)
  into found [] = refl
  into found (y ∷ ys) = into (insert_key by_bytes found y) ys ∙ ap (λ (b : Bool). has ys x || b) (inserted y found) ∙ regrouped (has ys x) (bytes_eq y x) (has found x)

  pub in_set : (xs : List (List ℕ)) → has (set_of xs) x ≡ has xs x
  in_set xs = into [] xs ∙ nothing_more (has xs x)

  ids_of : (keys : List RawKey) → has (map (λ k. k.id) keys) x ≡ is_listed keys x
  ids_of [] = refl
  ids_of (k ∷ keys) = ap (λ (b : Bool). bytes_eq k.id x || b) (ids_of keys)

  names_of : (persons : List Person) → has (map (λ p. p.name) persons) x ≡ list_any (is_named x) persons
  names_of [] = refl
  names_of (p ∷ persons) = ap (λ (b : Bool). bytes_eq p.name x || b) (names_of persons)

-- ---- the tests

module _ (roster : Roster) (known : Known) (index : IsIndex roster known) where
  id_found : (id : List ℕ) → has known.ids id ≡ is_listed roster.keys id
  id_found id = ap (λ (ids : List (List ℕ)). has ids id) index.ids ∙ in_set id (map (λ k. k.id) roster.keys) ∙ ids_of id roster.keys

  text_found : (id : Option (List ℕ)) → has_id known.ids id ≡ is_listed_id roster.keys id
  text_found None = refl
  text_found (Some id) = id_found id

  name_found : (name : List ℕ) → has known.names name ≡ list_any (is_named name) roster.persons
  name_found name = ap (λ (names : List (List ℕ)). has names name) index.names ∙ in_set name (map (λ p. p.name) roster.persons) ∙ names_of name roster.persons

  pub found : is_found known roster.schema ≡ is_known roster
  found = λ i text. if roster.schema == 1 then text_found (hex_bytes 32 text) i else name_found text i

  pub beside : is_bad_beside known ≡ is_bad_person roster.keys
  beside = λ i earlier person.
      not (is_name person.name) || list_any (is_named person.name) earlier || not (has_few_ids person) || not (list_all (λ id. id_found id i) person.keyids)
