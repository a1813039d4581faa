-- What a pairing of two rising walks says: exactly the paths whose values differ, and the visits of the second walk with
-- the first's own.
use Rattle.std.proofs.Common.{◌≡◌, ℕ, ◌+◌, ◌&&◌, ◌||◌, Bool, true, false, cond, not, List, [], ◌∷◌, ◌++◌, Option, Some, None, refl, sym, ap, subst, ◌∙◌, arith}
use Rattle.std.specs.Cmp.{tied_itself}
use Rattle.std.specs.FinMap.{find}
use Rattle.std.specs.List.{AllByRecursion, list_any}
use Rattle.std.specs.Ordering.{eq_by_cmp, is_eq}
use Rattle.std.specs.Str.{bytes_eq}
use Rattle.std.specs.declared.cmp.Ordering.{Ordering}
use Rattle.std.specs.declared.cmp.Ordering.TheVariants.{Less, Equal, Greater}
use Rattle.std.proofs.lemmas.Bool.{false≢true}
use Rattle.std.proofs.lemmas.Cmp.{nat_list_cmp_total}
use Rattle.std.proofs.lemmas.List.Folds.{list_any-append}
use Rattle.std.proofs.lemmas.Slice.Eq.{bytes_eq-Decides}
use Rattle.octets.specs.BytesMap.{by_bytes}
use Rattle.keeper_api.proofs.Trees.{exact_bytes}
use Rattle.tree_paths.specs.Changes.{AreRising, has_path, own}
use Rattle.tree_paths.specs.Listings.{visits}
use Rattle.tree_paths.specs.Pairings.{FromOnly, InBoth, Pairing, ToOnly, alike, change_at, changes, cost, merge, only_to, pair_in, place, same_visit, turn, value, visits_in}
use Rattle.tree_paths.specs.States.{PathValue, path_values}
use Rattle.tree_paths.specs.Walks.{Leaf, Step, Visit}
use Rattle.tree_paths.proofs.Order.{all_map, turned_back}

-- each step stands before all later ones
abbrev pub Rising : List Step → Type 0
Rising [] = Unit {0}
Rising (x ∷ xs) = AllByRecursion (λ y. by_bytes (place x) (place y) ≡ Less) xs × Rising xs

-- all steps stand after a place
abbrev After : List ℕ → List Step → Type 0
After p xs = AllByRecursion (λ y. by_bytes p (place y) ≡ Less) xs

after_next : (p q : List ℕ) (xs : List Step) → by_bytes p q ≡ Less → After q xs → After p xs
after_next p q xs less all = all_map (λ y. by_bytes q (place y) ≡ Less) (λ y. by_bytes p (place y) ≡ Less) (λ y more. nat_list_cmp_total.trans p q (place y) less more) xs all

after_same : (p q : List ℕ) (xs : List Step) → p ≡ q → After q xs → After p xs
after_same p q xs same all = subst (λ (r : List ℕ). After r xs) (sym same) all

-- ---- the value at a path

abbrev at : List Step → List ℕ → Option PathValue
at xs p = find by_bytes p (path_values xs)

tied : (p q : List ℕ) → p ≡ q → eq_by_cmp by_bytes p q ≡ true
tied p q same = ap (λ (r : List ℕ). is_eq (by_bytes p r)) (sym same) ∙ ap is_eq (tied_itself nat_list_cmp_total p)

not_tied : (p q : List ℕ) → (p ≡ q → ⊥) → eq_by_cmp by_bytes p q ≡ false
not_tied p q other = by_order (by_bytes p q) refl
  where
    by_order : (o : Ordering) → by_bytes p q ≡ o → eq_by_cmp by_bytes p q ≡ false
    by_order Less e = ap is_eq e
    by_order Equal e = absurd (other (exact_bytes p q e))
    by_order Greater e = ap is_eq e

pub less_other : (p q : List ℕ) → by_bytes p q ≡ Less → p ≡ q → ⊥
less_other p q less same =
    let equal : by_bytes p q ≡ Equal = ap (by_bytes p) (sym same) ∙ tied_itself nat_list_cmp_total p in
    let clash : Less ≡ Equal = sym less ∙ equal in cc

none_after : (p : List ℕ) (xs : List Step) → After p xs → at xs p ≡ None
none_after p [] all = refl
none_after p (Visit left front id ∷ xs) all = none_after p xs all.1
none_after p (Leaf holder path mode id ∷ xs) all =
    ap (λ (b : Bool). cond b (Some (mode, id)) (at xs p)) (not_tied p path (less_other p path all.0)) ∙ none_after p xs all.1

pub at_here : (x : Step) (xs : List Step) (p : List ℕ) → After (place x) xs → p ≡ place x → at (x ∷ xs) p ≡ value x
at_here (Visit left front id) xs p all same = none_after p xs (after_same p front xs same all)
at_here (Leaf holder path mode id) xs p all same = ap (λ (b : Bool). cond b (Some (mode, id)) (at xs p)) (tied p path same)

pub at_later : (x : Step) (xs : List Step) (p : List ℕ) → (p ≡ place x → ⊥) → at (x ∷ xs) p ≡ at xs p
at_later (Visit left front id) xs p other = refl
at_later (Leaf holder path mode id) xs p other = ap (λ (b : Bool). cond b (Some (mode, id)) (at xs p)) (not_tied p path other)

-- ---- one turn

has_append : (p : List ℕ) (xs ys : List (List ℕ)) → has_path (xs ++ ys) p ≡ (has_path xs p || has_path ys p)
has_append p xs ys = list_any-append (λ (q : List ℕ). bytes_eq q p) xs ys

or_false : (b : Bool) → (b || false) ≡ b
or_false true = refl
or_false false = refl

has_here : (p q : List ℕ) (v w : Option PathValue) → p ≡ q → has_path (change_at q v w) p ≡ not (alike v w)
has_here p q v w same = by_test (alike v w)
  where
    by_test : (b : Bool) → has_path (cond b [] (q ∷ [])) p ≡ not b
    by_test true = refl
    by_test false = ap (λ (b : Bool). b || false) ((bytes_eq-Decides q p).1 (sym same))

has_none : (p q : List ℕ) (v w : Option PathValue) → (p ≡ q → ⊥) → has_path (change_at q v w) p ≡ false
has_none p q v w other = by_test (alike v w)
  where
    no : (b : Bool) → bytes_eq q p ≡ b → (b || false) ≡ false
    no true e = absurd (other (sym ((bytes_eq-Decides q p).0 e)))
    no false e = refl

    by_test : (b : Bool) → has_path (cond b [] (q ∷ [])) p ≡ false
    by_test true = refl
    by_test false = no (bytes_eq q p) refl

turn_differs : (p q : List ℕ) (v w g h a b : Option PathValue) → (p ≡ q → (g ≡ v) × (h ≡ w) × (a ≡ None) × (b ≡ None)) → ((p ≡ q → ⊥) → (g ≡ a) × (h ≡ b))
    → (has_path (change_at q v w) p || not (alike a b)) ≡ not (alike g h)
turn_differs p q v w g h a b here later = by_test (bytes_eq p q) refl
  where
    by_test : (t : Bool) → bytes_eq p q ≡ t → (has_path (change_at q v w) p || not (alike a b)) ≡ not (alike g h)
    by_test true e =
        let same = (bytes_eq-Decides p q).0 e in
        let all = here same in
        (λ i. has_here p q v w same i || not (alike (all.2 i) (all.3 i))) ∙ or_false (not (alike v w)) ∙ (λ i. not (alike (sym all.0 i) (sym all.1 i)))
    by_test false e =
        let other : p ≡ q → ⊥ = λ same. false≢true (sym e ∙ (bytes_eq-Decides p q).1 same) in
        let all = later other in
        ap (λ (t : Bool). t || not (alike a b)) (has_none p q v w other) ∙ (λ i. not (alike (sym all.0 i) (sym all.1 i)))

-- ---- exactly the changed paths

abbrev Differs : List Step → List Step → List ℕ → List Pairing → Type 0
Differs xs ys p ps = has_path (changes ps) p ≡ not (alike (at xs p) (at ys p))

from_turn : (x : Step) (xs ys : List Step) (p : List ℕ) (ps : List Pairing) → After (place x) xs → After (place x) ys → Differs xs ys p ps → Differs (x ∷ xs) ys p (FromOnly x ∷ ps)
from_turn x xs ys p ps all other rest =
    has_append p (change_at (place x) (value x) None) (changes ps) ∙ ap (λ (b : Bool). has_path (change_at (place x) (value x) None) p || b) rest
    ∙ turn_differs p (place x) (value x) None (at (x ∷ xs) p) (at ys p) (at xs p) (at ys p)
    (λ same. (at_here x xs p all same, none_after p ys (after_same p (place x) ys same other), none_after p xs (after_same p (place x) xs same all), none_after p ys (after_same p (place x) ys same other)))
    (λ apart. (at_later x xs p apart, refl))

to_turn : (y : Step) (xs ys : List Step) (p : List ℕ) (ps : List Pairing) → After (place y) ys → After (place y) xs → Differs xs ys p ps → Differs xs (y ∷ ys) p (ToOnly y ∷ ps)
to_turn y xs ys p ps all other rest =
    has_append p (change_at (place y) None (value y)) (changes ps) ∙ ap (λ (b : Bool). has_path (change_at (place y) None (value y)) p || b) rest
    ∙ turn_differs p (place y) None (value y) (at xs p) (at (y ∷ ys) p) (at xs p) (at ys p)
    (λ same. (none_after p xs (after_same p (place y) xs same other), at_here y ys p all same, none_after p xs (after_same p (place y) xs same other), none_after p ys (after_same p (place y) ys same all)))
    (λ apart. (refl, at_later y ys p apart))

both_turn : (x y : Step) (xs ys : List Step) (p : List ℕ) (ps : List Pairing) → place x ≡ place y → After (place x) xs → After (place y) ys → Differs xs ys p ps → Differs (x ∷ xs) (y ∷ ys) p (InBoth x y ∷ ps)
both_turn x y xs ys p ps same all other rest =
    has_append p (change_at (place x) (value x) (value y)) (changes ps) ∙ ap (λ (b : Bool). has_path (change_at (place x) (value x) (value y)) p || b) rest
    ∙ turn_differs p (place x) (value x) (value y) (at (x ∷ xs) p) (at (y ∷ ys) p) (at xs p) (at ys p)
    (λ is. (at_here x xs p all is, at_here y ys p other (is ∙ same), none_after p xs (after_same p (place x) xs is all), none_after p ys (after_same p (place y) ys (is ∙ same) other)))
    (λ apart. (at_later x xs p apart, at_later y ys p (λ is. apart (is ∙ sym same))))

to_differs : (ys : List Step) (p : List ℕ) → Rising ys → Differs [] ys p (only_to ys)
to_differs [] p rising = refl
to_differs (y ∷ ys) p rising = to_turn y [] ys p (only_to ys) rising.0 tt (to_differs ys p rising.1)

inner_differs : (x : Step) (xs : List Step) (p : List ℕ) → Rising (x ∷ xs) → ((zs : List Step) → Rising zs → Differs xs zs p (merge xs zs))
    → (ys : List Step) → Rising ys → Differs (x ∷ xs) ys p (pair_in (merge xs) x ys)
inner_differs x xs p rising next [] other = from_turn x xs [] p (merge xs []) rising.0 tt (next [] tt)
inner_differs x xs p rising next (y ∷ ys) other = by_order (inner_differs x xs p rising next ys other.1) (by_bytes (place x) (place y)) refl
  where
    by_order : Differs (x ∷ xs) ys p (pair_in (merge xs) x ys) → (o : Ordering) → by_bytes (place x) (place y) ≡ o
        → Differs (x ∷ xs) (y ∷ ys) p (turn o x y (merge xs (y ∷ ys)) (merge xs ys) (pair_in (merge xs) x ys))
    by_order later Less e = from_turn x xs (y ∷ ys) p (merge xs (y ∷ ys)) rising.0 (e, after_next (place x) (place y) ys e other.0) (next (y ∷ ys) other)
    by_order later Equal e = both_turn x y xs ys p (merge xs ys) (exact_bytes (place x) (place y) e) rising.0 other.0 (next ys other.1)
    by_order later Greater e =
        let less = turned_back (place x) (place y) e in
        to_turn y (x ∷ xs) ys p (pair_in (merge xs) x ys) other.0 (less, after_next (place y) (place x) xs less rising.0) later

pub merge_differs : (xs ys : List Step) (p : List ℕ) → Rising xs → Rising ys → Differs xs ys p (merge xs ys)
merge_differs [] ys p rising other = to_differs ys p other
merge_differs (x ∷ xs) ys p rising other = inner_differs x xs p rising (λ zs more. merge_differs xs zs p rising.1 more) ys other

-- ---- in the order of bytes

abbrev AfterPaths : List ℕ → List (List ℕ) → Type 0
AfterPaths p qs = AllByRecursion (λ q. by_bytes p q ≡ Less) qs

at_change : (p q : List ℕ) (v w : Option PathValue) (rest : List (List ℕ)) → by_bytes p q ≡ Less → AfterPaths p rest → AfterPaths p (change_at q v w ++ rest)
at_change p q v w rest less all = by_test (alike v w)
  where
    by_test : (b : Bool) → AfterPaths p (cond b [] (q ∷ []) ++ rest)
    by_test true = all
    by_test false = (less, all)

to_after : (p : List ℕ) (ys : List Step) → After p ys → AfterPaths p (changes (only_to ys))
to_after p [] all = tt
to_after p (y ∷ ys) all = at_change p (place y) None (value y) (changes (only_to ys)) all.0 (to_after p ys all.1)

inner_after : (p : List ℕ) (x : Step) (xs : List Step) → by_bytes p (place x) ≡ Less → ((zs : List Step) → After p zs → AfterPaths p (changes (merge xs zs)))
    → (ys : List Step) → After p ys → AfterPaths p (changes (pair_in (merge xs) x ys))
inner_after p x xs less next [] all = at_change p (place x) (value x) None (changes (merge xs [])) less (next [] tt)
inner_after p x xs less next (y ∷ ys) all = by_order (inner_after p x xs less next ys all.1) (by_bytes (place x) (place y))
  where
    by_order : AfterPaths p (changes (pair_in (merge xs) x ys)) → (o : Ordering) → AfterPaths p (changes (turn o x y (merge xs (y ∷ ys)) (merge xs ys) (pair_in (merge xs) x ys)))
    by_order later Less = at_change p (place x) (value x) None (changes (merge xs (y ∷ ys))) less (next (y ∷ ys) all)
    by_order later Equal = at_change p (place x) (value x) (value y) (changes (merge xs ys)) less (next ys all.1)
    by_order later Greater = at_change p (place y) None (value y) (changes (pair_in (merge xs) x ys)) all.0 later

merge_after : (p : List ℕ) (xs ys : List Step) → After p xs → After p ys → AfterPaths p (changes (merge xs ys))
merge_after p [] ys all other = to_after p ys other
merge_after p (x ∷ xs) ys all other = inner_after p x xs all.0 (λ zs more. merge_after p xs zs all.1 more) ys other

first_rises : (q : List ℕ) (v w : Option PathValue) (rest : List (List ℕ)) → AfterPaths q rest → AreRising rest → AreRising (change_at q v w ++ rest)
first_rises q v w rest all rising = by_test (alike v w)
  where
    by_test : (b : Bool) → AreRising (cond b [] (q ∷ []) ++ rest)
    by_test true = rising
    by_test false = (all, rising)

to_rises : (ys : List Step) → Rising ys → AreRising (changes (only_to ys))
to_rises [] rising = tt
to_rises (y ∷ ys) rising = first_rises (place y) None (value y) (changes (only_to ys)) (to_after (place y) ys rising.0) (to_rises ys rising.1)

inner_rises : (x : Step) (xs : List Step) → Rising (x ∷ xs) → ((zs : List Step) → Rising zs → AreRising (changes (merge xs zs)))
    → (ys : List Step) → Rising ys → AreRising (changes (pair_in (merge xs) x ys))
inner_rises x xs rising next [] other = first_rises (place x) (value x) None (changes (merge xs [])) (merge_after (place x) xs [] rising.0 tt) (next [] tt)
inner_rises x xs rising next (y ∷ ys) other = by_order (inner_rises x xs rising next ys other.1) (by_bytes (place x) (place y)) refl
  where
    by_order : AreRising (changes (pair_in (merge xs) x ys)) → (o : Ordering) → by_bytes (place x) (place y) ≡ o → AreRising (changes (turn o x y (merge xs (y ∷ ys)) (merge xs ys) (pair_in (merge xs) x ys)))
    by_order later Less e =
        first_rises (place x) (value x) None (changes (merge xs (y ∷ ys))) (merge_after (place x) xs (y ∷ ys) rising.0 (e, after_next (place x) (place y) ys e other.0)) (next (y ∷ ys) other)
    by_order later Equal e =
        let same = exact_bytes (place x) (place y) e in
        first_rises (place x) (value x) (value y) (changes (merge xs ys)) (merge_after (place x) xs ys rising.0 (after_same (place x) (place y) ys same other.0)) (next ys other.1)
    by_order later Greater e =
        let less = turned_back (place x) (place y) e in
        first_rises (place y) None (value y) (changes (pair_in (merge xs) x ys)) (merge_after (place y) (x ∷ xs) ys (less, after_next (place y) (place x) xs less rising.0) other.0) later

pub merge_rises : (xs ys : List Step) → Rising xs → Rising ys → AreRising (changes (merge xs ys))
merge_rises [] ys rising other = to_rises ys other
merge_rises (x ∷ xs) ys rising other = inner_rises x xs rising (λ zs more. merge_rises xs zs rising.1 more) ys other

-- ---- the reads

other_visit : (x y : Step) → (place x ≡ place y → ⊥) → same_visit x y ≡ false
other_visit (Visit left front id) (Visit right path other) apart = by_test (bytes_eq front path) refl
  where
    by_test : (b : Bool) → bytes_eq front path ≡ b → (b && bytes_eq id other) ≡ false
    by_test true e = absurd (apart ((bytes_eq-Decides front path).0 e))
    by_test false e = refl
other_visit (Visit left front id) (Leaf holder path mode other) apart = refl
other_visit (Leaf holder path mode id) y apart = refl

not_visited : (x : Step) (ys : List Step) → After (place x) ys → list_any (same_visit x) ys ≡ false
not_visited x [] all = refl
not_visited x (y ∷ ys) all = (λ i. other_visit x y (less_other (place x) (place y) all.0) i || not_visited x ys all.1 i)

own_later : (xs : List Step) (y : Step) (ys : List Step) → After (place y) xs → own xs (y ∷ ys) ≡ own xs ys
own_later [] y ys all = refl
own_later (x ∷ xs) y ys all =
    (λ i. cond (other_visit x y (λ same. less_other (place y) (place x) all.0 (sym same)) i || list_any (same_visit x) ys) 0 (visits_in x) + own_later xs y ys all.1 i)

to_reads : (ys : List Step) → cost (only_to ys) ≡ visits ys + 0
to_reads [] = refl
to_reads (y ∷ ys) = let rest = to_reads ys in omega (arith, rest)

inner_cost : (x : Step) (xs : List Step) → Rising (x ∷ xs) → ((zs : List Step) → Rising zs → cost (merge xs zs) ≡ visits zs + own xs zs)
    → (ys : List Step) → Rising ys → cost (pair_in (merge xs) x ys) ≡ visits ys + own (x ∷ xs) ys
inner_cost x xs rising next [] other = let rest = next [] tt in omega (arith, rest)
inner_cost x xs rising next (y ∷ ys) other = by_order (inner_cost x xs rising next ys other.1) (by_bytes (place x) (place y)) refl
  where
    by_order : cost (pair_in (merge xs) x ys) ≡ visits ys + own (x ∷ xs) ys → (o : Ordering) → by_bytes (place x) (place y) ≡ o
        → cost (turn o x y (merge xs (y ∷ ys)) (merge xs ys) (pair_in (merge xs) x ys)) ≡ visits (y ∷ ys) + own (x ∷ xs) (y ∷ ys)
    by_order later Less e =
        let rest = next (y ∷ ys) other in
        let first : own (x ∷ xs) (y ∷ ys) ≡ visits_in x + own xs (y ∷ ys) = ap (λ (b : Bool). cond b 0 (visits_in x) + own xs (y ∷ ys)) (not_visited x (y ∷ ys) (e, after_next (place x) (place y) ys e other.0)) in
        omega (arith, rest, first)
    by_order later Equal e =
        let rest = next ys other.1 in
        let same = exact_bytes (place x) (place y) e in
        let here : list_any (same_visit x) (y ∷ ys) ≡ same_visit x y = ap (λ (b : Bool). same_visit x y || b) (not_visited x ys (after_same (place x) (place y) ys same other.0)) ∙ or_false (same_visit x y) in
        let first : own (x ∷ xs) (y ∷ ys) ≡ cond (same_visit x y) 0 (visits_in x) + own xs ys =
        (λ i. cond (here i) 0 (visits_in x) + own_later xs y ys (after_same (place y) (place x) xs (sym same) rising.0) i) in
        omega (arith, rest, first)
    by_order later Greater e =
        let less = turned_back (place x) (place y) e in
        let first = own_later (x ∷ xs) y ys (less, after_next (place y) (place x) xs less rising.0) in
        omega (arith, later, first)

pub merge_cost : (xs ys : List Step) → Rising xs → Rising ys → cost (merge xs ys) ≡ visits ys + own xs ys
merge_cost [] ys rising other = to_reads ys
merge_cost (x ∷ xs) ys rising other = inner_cost x xs rising (λ zs more. merge_cost xs zs rising.1 more) ys other
