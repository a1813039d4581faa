-- What is in a set, and in a list that was gone through by a test.
use Rattle.std.proofs.Common.{◌≡◌, ◌⊎◌, ◌↔◌, ◌<◌, ℕ, suc, Bool, true, false, cond, List, [], ◌∷◌, length, map, get_or, refl, ap, sym, inl, inr, ◌∙◌, arith}
use Prim.Native.Nat as Nat
use Rattle.std.specs.BTreeSet.{insert_key}
use Rattle.std.specs.List.{Contains, filter, list_any}
use Rattle.std.specs.Ordering.{match_ordering}
use Rattle.std.specs.declared.cmp.Ordering.{Ordering}
use Rattle.std.specs.declared.cmp.Ordering.TheVariants.{Less, Equal, Greater}
use Rattle.std.proofs.lemmas.Bool.{or_cases, or_left, or_right, true≢false}
use Rattle.std.specs.FinMap.{nat_cmp-IsAntisymmetric, slice_cmp-IsAntisymmetric}
use Rattle.octets.specs.BytesMap.{by_bytes}
use Rattle.root_metadata.specs.Shapes.{into_set, set_of}

abbrev pub In : {X : Type 0} → List X → X → Type 0
In [] x = ⊥
In (y ∷ ys) x = (y ≡ x) ⊎ In ys x

pub from_contains : {X : Type 0} (xs : List X) (x : X) → Contains xs x → In xs x
from_contains {X} xs x w = at xs w.0 w.1 w.2 where
  at : (xs : List X) (k : ℕ) → k < length xs → get_or xs k x ≡ x → In xs x
  at [] k lt is = absurd (omega arith)
  at (y ∷ ys) Nat.zero lt is = inl is
  at (y ∷ ys) (suc k) lt is = inr (at ys k (omega arith) is)

pub to_contains : {X : Type 0} (xs : List X) (x : X) → In xs x → Contains xs x
to_contains [] x h = absurd h
to_contains (y ∷ ys) x (inl is) = (0, omega arith, is)
to_contains (y ∷ ys) x (inr h) = let w = to_contains ys x h in (suc w.0, let lt = w.1 in omega arith, w.2)

in_inserted : (k : List ℕ) (ks : List (List ℕ)) (x : List ℕ) → In (insert_key by_bytes ks k) x ↔ ((k ≡ x) ⊎ In ks x)
in_inserted k [] x = (λ h. h, λ h. h)
in_inserted k (y ∷ ys) x = by_order (in_inserted k ys x) (by_bytes k y) refl where
  by_order : In (insert_key by_bytes ys k) x ↔ ((k ≡ x) ⊎ In ys x) → (o : Ordering) → by_bytes k y ≡ o
      → In (match_ordering o (k ∷ y ∷ ys) (y ∷ ys) (y ∷ insert_key by_bytes ys k)) x ↔ ((k ≡ x) ⊎ In (y ∷ ys) x)
  by_order more Less is = (λ h. h, λ h. h)
  by_order more Equal is = (
    (λ h. inr h),
    λ h. elim h [
      | inl own ↦ inl (sym (slice_cmp-IsAntisymmetric nat_cmp-IsAntisymmetric k y is) ∙ own)
      | inr old ↦ old
    ],
  )
  by_order more Greater is = (
    (λ h. elim h [
      | inl here ↦ inr (inl here)
      | inr there ↦ elim (more.0 there) [ inl own ↦ inl own | inr old ↦ inr (inr old) ]
    ]),
    λ h. elim h [
      | inl own ↦ inr (more.1 (inl own))
      | inr old ↦ elim old [ inl here ↦ inl here | inr there ↦ inr (more.1 (inr there)) ]
    ],
  )

in_into : (found xs : List (List ℕ)) (x : List ℕ) → In (into_set found xs) x ↔ (In found x ⊎ In xs x)
in_into found [] x = ((λ h. inl h), λ h. elim h [ inl a ↦ a | inr b ↦ absurd b ])
in_into found (y ∷ ys) x =
    let one = in_inserted y found x in
    let rest = in_into (insert_key by_bytes found y) ys x in (
      (λ h. elim (rest.0 h) [
        | inl a ↦ elim (one.0 a) [ inl own ↦ inr (inl own) | inr old ↦ inl old ]
        | inr b ↦ inr (inr b)
      ]),
      λ h. elim h [
        | inl old ↦ rest.1 (inl (one.1 (inr old)))
        | inr new ↦ elim new [ inl own ↦ rest.1 (inl (one.1 (inl own))) | inr b ↦ rest.1 (inr b) ]
      ],
    )

-- a set has the items of the list
pub in_set : (xs : List (List ℕ)) (x : List ℕ) → In (set_of xs) x ↔ In xs x
in_set xs x =
    let into = in_into [] xs x in
    ((λ h. elim (into.0 h) [ inl a ↦ absurd a | inr b ↦ b ]), λ h. into.1 (inr h))

-- the values of the items at which the test holds
pub record IsPassed {X Y : Type 0} (f : X → Y) (p : X → Bool) (xs : List X) (y : Y) : Type 0 where
  pub item : X
  pub there : In xs item
  pub value : f item ≡ y
  pub passes : p item ≡ true

pub in_passed : {X Y : Type 0} (f : X → Y) (p : X → Bool) (xs : List X) (y : Y) → In (map f (filter p xs)) y ↔ IsPassed f p xs y
in_passed f p [] y = ((λ h. absurd h), λ is. absurd is.there)
in_passed {X} {Y} f p (x ∷ xs) y = by_test (in_passed f p xs y) (p x) refl where
  by_test : In (map f (filter p xs)) y ↔ IsPassed f p xs y → (b : Bool) → p x ≡ b → In (map f (cond b (x ∷ filter p xs) (filter p xs))) y ↔ IsPassed f p (x ∷ xs) y
  by_test more true is = (
    (λ h. elim h [
      | inl here ↦ record { item = x; there = inl refl; value = here; passes = is }
      | inr there ↦ let old = more.0 there in record { item = old.item; there = inr old.there; value = old.value; passes = old.passes }
    ]),
    λ w. elim w.there [
      | inl here ↦ inl (ap f here ∙ w.value)
      | inr there ↦ inr (more.1 (record { item = w.item; there = there; value = w.value; passes = w.passes }))
    ],
  )
  by_test more false is = (
    (λ h. let old = more.0 h in record { item = old.item; there = inr old.there; value = old.value; passes = old.passes }),
    λ w. elim w.there [
      | inl here ↦ absurd (true≢false (sym w.passes ∙ ap p (sym here) ∙ is))
      | inr there ↦ more.1 (record { item = w.item; there = there; value = w.value; passes = w.passes })
    ],
  )

-- some item passes the test
pub some_passes : {X : Type 0} (p : X → Bool) (xs : List X) → list_any p xs ≡ true → (x : X) × (In xs x × (p x ≡ true))
some_passes p [] h = absurd (true≢false (sym h))
some_passes p (x ∷ xs) h = elim (or_cases (p x) (list_any p xs) h) [ inl a ↦ (x, (inl refl, a)) | inr b ↦ let w = some_passes p xs b in (w.0, (inr w.1.0, w.1.1)) ]

pub passes_some : {X : Type 0} (p : X → Bool) (xs : List X) (x : X) → In xs x → p x ≡ true → list_any p xs ≡ true
passes_some p [] x h is = absurd h
passes_some p (y ∷ ys) x (inl here) is = or_left (p y) (list_any p ys) (ap p here ∙ is)
passes_some p (y ∷ ys) x (inr there) is = or_right (p y) (list_any p ys) (passes_some p ys x there is)
