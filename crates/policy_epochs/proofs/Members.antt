-- Members of lists, and tests of them.
use Rattle.std.proofs.Common.{◌≡◌, ◌⊎◌, ◌↔◌, ◌<◌, ◌&&◌, ◌||◌, ℕ, suc, zero, Bool, true, false, cond, List, [], ◌∷◌, Some, None, length, get_or, refl, ap, sym, inl, inr, ◌∙◌, arith}
use Rattle.std.specs.Bool.{Decides}
use Rattle.std.specs.List.{Contains, find, list_all, list_any}
use Rattle.std.proofs.lemmas.Bool.{true≢false}

abbrev pub In : {X : Type 0} → List X → X → Type 0
In [] x = ⊥
In (y ∷ ys) x = (y ≡ x) ⊎ In ys x

pub from_contains : {X : Type 0} (xs : List X) (x : X) → Contains xs x → In xs x
from_contains {X} xs x w = at xs w.0 w.1 w.2 where
  at : (xs : List X) (k : ℕ) → k < length xs → get_or xs k x ≡ x → In xs x
  at [] k lt is = absurd (omega arith)
  at (y ∷ ys) zero lt is = inl is
  at (y ∷ ys) (suc k) lt is = inr (at ys k (omega arith) is)

pub to_contains : {X : Type 0} (xs : List X) (x : X) → In xs x → Contains xs x
to_contains [] x h = absurd h
to_contains (y ∷ ys) x (inl is) = (0, omega arith, is)
to_contains (y ∷ ys) x (inr h) = let w = to_contains ys x h in (suc w.0, let lt = w.1 in omega arith, w.2)

-- ---- some member passes
any_in : {X : Type 0} (p : X → Bool) (xs : List X) → list_any p xs ≡ true → (x : X) × (In xs x × (p x ≡ true))
any_in p [] h = absurd (true≢false (sym h))
any_in {X} p (y ∷ ys) h = by_test (any_in p ys) (p y) refl h where
  by_test : (list_any p ys ≡ true → (x : X) × (In ys x × (p x ≡ true))) → (b : Bool) → p y ≡ b → (b || list_any p ys) ≡ true → (x : X) × (In (y ∷ ys) x × (p x ≡ true))
  by_test more true is own = (y, (inl refl, is))
  by_test more false is own = let w = more own in (w.0, (inr w.1.0, w.1.1))

in_any : {X : Type 0} (p : X → Bool) (xs : List X) (x : X) → In xs x → p x ≡ true → list_any p xs ≡ true
in_any p [] x h is = absurd h
in_any p (y ∷ ys) x h is = by_test (λ there. in_any p ys x there is) (p y) refl h where
  by_test : (In ys x → list_any p ys ≡ true) → (b : Bool) → p y ≡ b → In (y ∷ ys) x → (b || list_any p ys) ≡ true
  by_test more true own there = refl
  by_test more false own (inl here) = absurd (true≢false (sym is ∙ ap p (sym here) ∙ own))
  by_test more false own (inr there) = more there

pub any_decides : {X : Type 0} (p : X → Bool) (P : X → Type 0) → ((x : X) → Decides (p x) (P x)) → (xs : List X) → Decides (list_any p xs) ((x : X) × (Contains xs x × P x))
any_decides p P each xs = (
  (λ h. let w = any_in p xs h in (w.0, (to_contains xs w.0 w.1.0, (each w.0).0 w.1.1))),
  λ w. in_any p xs w.0 (from_contains xs w.0 w.1.0) ((each w.0).1 w.1.1),
)

-- ---- none is found
find_in : {X : Type 0} (p : X → Bool) (xs : List X) → find p xs ≡ None → (x : X) → In xs x → p x ≡ false
find_in p [] h x there = absurd there
find_in {X} p (y ∷ ys) h x there = by_test (λ own rest. find_in p ys own x rest) (p y) refl h there where
  by_test : (find p ys ≡ None → In ys x → p x ≡ false) → (b : Bool) → p y ≡ b → cond b (Some y) (find p ys) ≡ None → In (y ∷ ys) x → p x ≡ false
  by_test more true is own rest = absurd cc
  by_test more false is own (inl here) = ap p (sym here) ∙ is
  by_test more false is own (inr rest) = more own rest

in_find : {X : Type 0} (p : X → Bool) (xs : List X) → ((x : X) → In xs x → p x ≡ false) → find p xs ≡ None
in_find p [] h = refl
in_find p (y ∷ ys) h = ap (λ b. cond b (Some y) (find p ys)) (h y (inl refl)) ∙ in_find p ys (λ x there. h x (inr there))

pub none_found : {X : Type 0} (p : X → Bool) (P : X → Type 0) → ((x : X) → (p x ≡ false) ↔ P x) → (xs : List X) → (find p xs ≡ None) ↔ ((x : X) → Contains xs x → P x)
none_found p P each xs = (
  (λ h x there. (each x).0 (find_in p xs h x (from_contains xs x there))),
  λ h. in_find p xs (λ x there. (each x).1 (h x (to_contains xs x there))),
)

-- ---- each member passes
pub all_decides : {X : Type 0} (p : X → Bool) (P : X → Type 0) → ((x : X) → Decides (p x) (P x)) → (xs : List X) → Decides (list_all p xs) ((x : X) → Contains xs x → P x)
all_decides {X} p P each xs = ((λ h x there. (each x).0 (all_in xs h x (from_contains xs x there))), λ h. in_all xs (λ x there. (each x).1 (h x (to_contains xs x there)))) where
  all_in : (xs : List X) → list_all p xs ≡ true → (x : X) → In xs x → p x ≡ true
  all_in [] h x there = absurd there
  all_in (y ∷ ys) h x there = by_test (λ own rest. all_in ys own x rest) (p y) refl h there where
    by_test : (list_all p ys ≡ true → In ys x → p x ≡ true) → (b : Bool) → p y ≡ b → (b && list_all p ys) ≡ true → In (y ∷ ys) x → p x ≡ true
    by_test more true is own (inl here) = ap p (sym here) ∙ is
    by_test more true is own (inr rest) = more own rest
    by_test more false is own rest = absurd (true≢false (sym own))

  in_all : (xs : List X) → ((x : X) → In xs x → p x ≡ true) → list_all p xs ≡ true
  in_all [] h = refl
  in_all (y ∷ ys) h = ap (λ b. b && list_all p ys) (h y (inl refl)) ∙ in_all ys (λ x there. h x (inr there))
