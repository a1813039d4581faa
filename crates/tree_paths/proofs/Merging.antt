-- The pairing of two walks, piece by piece.
use Rattle.std.proofs.Common.{◌≡◌, ℕ, ◌+◌, List, [], ◌∷◌, ◌++◌, refl, sym, ap, ◌∙◌, append_assoc, arith}
use Rattle.std.specs.List.{AllByRecursion}
use Rattle.std.specs.Ordering.{ordering_reverse}
use Rattle.std.specs.Cmp.{tied_itself}
use Rattle.std.specs.declared.cmp.Ordering.{Ordering}
use Rattle.std.specs.declared.cmp.Ordering.TheVariants.{Less, Equal, Greater}
use Rattle.std.proofs.lemmas.Cmp.{nat_list_cmp_total}
use Rattle.octets.specs.BytesMap.{by_bytes}
use Rattle.tree_paths.specs.Walks.{Step}
use Rattle.tree_paths.specs.Pairings.{FromOnly, InBoth, Pairing, ToOnly, change, changes, cost, merge, pair_in, place, turn}

-- every step of the first list stands before every step of the second
abbrev pub Ahead : List Step → List Step → Type 0
Ahead xs ys = AllByRecursion (λ x. AllByRecursion (λ y. by_bytes (place x) (place y) ≡ Less) ys) xs

-- what is less than another is not greater
pub turned : (a b : List ℕ) → by_bytes b a ≡ Less → by_bytes a b ≡ Greater
turned a b less = nat_list_cmp_total.antisymm a b ∙ ap ordering_reverse less

pub same_place : (a : List ℕ) → by_bytes a a ≡ Equal
same_place a = tied_itself nat_list_cmp_total a

-- a step before all others of the second walk comes first, alone
before_all : (next : List Step → List Pairing) (x : Step) (ys : List Step) → AllByRecursion (λ y. by_bytes (place x) (place y) ≡ Less) ys → pair_in next x ys ≡ FromOnly x ∷ next ys
before_all next x [] all = refl
before_all next x (y ∷ ys) all = ap (λ (o : Ordering). turn o x y (next (y ∷ ys)) (next ys) (pair_in next x ys)) all.0

-- and so does one of the second walk
pub to_first : (xs : List Step) (y : Step) (ys : List Step) → AllByRecursion (λ x. by_bytes (place y) (place x) ≡ Less) xs → merge xs (y ∷ ys) ≡ ToOnly y ∷ merge xs ys
to_first [] y ys all = refl
to_first (x ∷ xs) y ys all =
    ap (λ (o : Ordering). turn o x y (merge xs (y ∷ ys)) (merge xs ys) (pair_in (merge xs) x ys)) (turned (place x) (place y) all.0)

inner : (es bs : List Step) (e : Step) (us : List Step)
    → ((fs : List Step) → Ahead fs bs → merge (es ++ bs) (fs ++ us) ≡ merge es fs ++ merge bs us)
    → AllByRecursion (λ y. by_bytes (place e) (place y) ≡ Less) us
    → (fs : List Step) → Ahead fs bs → pair_in (merge (es ++ bs)) e (fs ++ us) ≡ pair_in (merge es) e fs ++ merge bs us
inner es bs e us next first [] ahead =
    before_all (merge (es ++ bs)) e us first ∙ ap (λ (ps : List Pairing). FromOnly e ∷ ps) (next [] tt)
inner es bs e us next first (f ∷ fs) ahead = by_turn (inner es bs e us next first fs ahead.1) (by_bytes (place e) (place f))
  where
    by_turn : pair_in (merge (es ++ bs)) e (fs ++ us) ≡ pair_in (merge es) e fs ++ merge bs us → (o : Ordering) → turn o e f (merge (es ++ bs) (f ∷ fs ++ us)) (merge (es ++ bs) (fs ++ us)) (pair_in (merge (es ++ bs)) e (fs ++ us))
        ≡ turn o e f (merge es (f ∷ fs)) (merge es fs) (pair_in (merge es) e fs) ++ merge bs us
    by_turn rest Less = ap (λ (ps : List Pairing). FromOnly e ∷ ps) (next (f ∷ fs) ahead)
    by_turn rest Equal = ap (λ (ps : List Pairing). InBoth e f ∷ ps) (next fs ahead.1)
    by_turn rest Greater = ap (λ (ps : List Pairing). ToOnly f ∷ ps) rest

-- where the pieces stand before what is left of the other walk, the pairing is that of the pieces and of what is left
pub merge_pieces : (es bs fs us : List Step) → Ahead es us → Ahead fs bs → merge (es ++ bs) (fs ++ us) ≡ merge es fs ++ merge bs us
merge_pieces [] bs [] us ahead other = refl
merge_pieces [] bs (f ∷ fs) us ahead other =
    to_first bs f (fs ++ us) other.0 ∙ ap (λ (ps : List Pairing). ToOnly f ∷ ps) (merge_pieces [] bs fs us tt other.1)
merge_pieces (e ∷ es) bs fs us ahead other =
    inner es bs e us (λ gs later. merge_pieces es bs gs us ahead.1 later) ahead.0 fs other

-- two steps at one place come first
pub merge_place : (x y : Step) (xs ys : List Step) → place x ≡ place y → merge (x ∷ xs) (y ∷ ys) ≡ InBoth x y ∷ merge xs ys
merge_place x y xs ys same =
    ap (λ (o : Ordering). turn o x y (merge xs (y ∷ ys)) (merge xs ys) (pair_in (merge xs) x ys))
    (ap (by_bytes (place x)) (sym same) ∙ same_place (place x))

abbrev pub only_from : List Step → List Pairing
only_from [] = []
only_from (x ∷ xs) = FromOnly x ∷ only_from xs

abbrev pub twice : List Step → List Pairing
twice [] = []
twice (x ∷ xs) = InBoth x x ∷ twice xs

pub merge_from : (xs : List Step) → merge xs [] ≡ only_from xs
merge_from [] = refl
merge_from (x ∷ xs) = ap (λ (ps : List Pairing). FromOnly x ∷ ps) (merge_from xs)

pub merge_twice : (xs : List Step) → merge xs xs ≡ twice xs
merge_twice [] = refl
merge_twice (x ∷ xs) = merge_place x x xs xs refl ∙ ap (λ (ps : List Pairing). InBoth x x ∷ ps) (merge_twice xs)

-- ---- sums over pieces

pub changes_append : (ps qs : List Pairing) → changes (ps ++ qs) ≡ changes ps ++ changes qs
changes_append [] qs = refl
changes_append (p ∷ ps) qs = ap (λ (cs : List (List ℕ)). change p ++ cs) (changes_append ps qs) ∙ sym (append_assoc (change p) (changes ps) (changes qs))

pub cost_append : (ps qs : List Pairing) → cost (ps ++ qs) ≡ cost ps + cost qs
cost_append [] qs = omega arith
cost_append (p ∷ ps) qs = let rest = cost_append ps qs in omega (arith, rest)
