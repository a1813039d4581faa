-- Persons who are named by ids rise as the ids do.
use Rattle.std.proofs.Common.{◌≡◌, ◌+◌, ◌++◌, ◌<◌, ℕ, suc, zero, true, List, [], ◌∷◌, get_or, length, map, take, refl, sym, ap, subst, ◌∙◌, arith}
use Rattle.std.specs.Prelude.{All}
use Rattle.std.specs.List.{AllByRecursion}
use Rattle.std.specs.List.Sorted.{IsStrictlySortedBy}
use Rattle.std.specs.Ordering.{is_lt}
use Rattle.std.specs.declared.cmp.Ordering.TheVariants.{Less}
use Rattle.std.proofs.lemmas.List.{map-append, take_more}
use Rattle.std.proofs.lemmas.List.Elements.{All-cons, All-head, All-nil, All-tail}
use Rattle.hex.specs.Hex.{encode_lower}
use Rattle.octets.specs.BytesMap.{by_bytes}
use Rattle.git_object.specs.Ids.{IsId}
use Rattle.root_metadata.specs.Risings.{is_next}
use Rattle.root_metadata.specs.declared.persons.Person.{Person}
use Rattle.demo.specs.Policies.{person_of}
use Rattle.demo.proofs.HexadecimalOrder.{hexadecimal_less}

abbrev name_of : Person → List ℕ
name_of p = p.name

-- the id at a place comes after the one before it
pub person_next : (ids : List (List ℕ)) (i : ℕ) (id : List ℕ) → IsStrictlySortedBy by_bytes ids → i < length ids → id ≡ get_or ids i id → AllByRecursion IsId (take i ids) → IsId id
    → is_next name_of (map person_of (take i ids)) (encode_lower id) ≡ true
unfolding IsStrictlySortedBy
person_next [] i id rising within is valid whole = absurd (omega arith)
person_next (x ∷ ids) zero id rising within is valid whole = refl
person_next (x ∷ []) (suc i) id rising within is valid whole = absurd (omega arith)
person_next (x ∷ y ∷ ids) (suc zero) id rising within is valid whole =
    let less : by_bytes x id ≡ Less = subst (λ (n : List ℕ). by_bytes x n ≡ Less) (sym is) rising.0.0 in
    ap is_lt (hexadecimal_less x id valid.0.bytes whole.bytes less)
person_next (x ∷ y ∷ ids) (suc (suc i)) id rising within is valid whole = person_next (y ∷ ids) (suc i) id rising.1 (omega arith) is valid.1 whole

-- ---- one more

pub ids_more : (ids : List (List ℕ)) (i : ℕ) (id : List ℕ) → i < length ids → id ≡ get_or ids i id → take (i + 1) ids ≡ take i ids ++ id ∷ []
ids_more ids i id within is = take_more ids i id within ∙ ap (λ (y : List ℕ). take i ids ++ y ∷ []) (sym is)

pub persons_more : (ids : List (List ℕ)) (i : ℕ) (id : List ℕ) → i < length ids → id ≡ get_or ids i id → map person_of (take (i + 1) ids) ≡ map person_of (take i ids) ++ person_of id ∷ []
persons_more ids i id within is = ap (map person_of) (ids_more ids i id within is) ∙ map-append person_of (take i ids) (id ∷ [])

pub all_more : (P : Person → Type 0) (xs : List Person) (x : Person) → All P xs → P x → All P (xs ++ x ∷ [])
all_more P [] x all here = All-cons P x [] here (All-nil P)
all_more P (y ∷ xs) x all here = All-cons P y (xs ++ x ∷ []) (All-head P y xs all) (all_more P xs x (All-tail P y xs all) here)

pub each_more : (P : List ℕ → Type 0) (xs : List (List ℕ)) (x : List ℕ) → AllByRecursion P xs → P x → AllByRecursion P (xs ++ x ∷ [])
each_more P [] x all here = (here, tt)
each_more P (y ∷ xs) x all here = (all.0, each_more P xs x all.1 here)
