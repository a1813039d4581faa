-- The last of a list, and keys that come after it.
use Rattle.std.proofs.Common.{◌≡◌, ℕ, suc, ◌-◌, Bool, true, List, [], ◌∷◌, ◌++◌, length, refl, sym, ap, subst, ◌∙◌, arith}
use Rattle.std.specs.Prelude.{None, Some, option_map, map, slice_get, IsTrue, ◌↔◌}
use Rattle.std.specs.Ordering.{is_lt}
use Rattle.std.specs.declared.cmp.Ordering.{Ordering}
use Rattle.std.specs.declared.cmp.Ordering.TheVariants.{Less, Equal, Greater}
use Rattle.std.proofs.lemmas.Cmp.{nat_list_cmp_total}
use Rattle.std.proofs.lemmas.Bool.{and_parts, and_from}
use Rattle.std.specs.FinMap.Entries.{below_all, is_sorted}
use Rattle.octets.specs.BytesMap.{by_bytes}
use Rattle.clone_stream.specs.Reading.{ComesAfter, last_of}

pub last_get : {A : Type 0} (xs : List A) → slice_get xs (length xs - 1) ≡ last_of xs
last_get [] = refl
last_get (x ∷ []) = refl
last_get (x ∷ y ∷ ys) =
    let place : length (x ∷ y ∷ ys) - 1 ≡ suc (length (y ∷ ys) - 1) = omega arith in
    ap (slice_get (x ∷ y ∷ ys)) place ∙ last_get (y ∷ ys)

pub last_map : {A B : Type 0} (f : A → B) (xs : List A) → last_of (map f xs) ≡ option_map f (last_of xs)
last_map f [] = refl
last_map f (x ∷ []) = refl
last_map f (x ∷ y ∷ ys) = last_map f (y ∷ ys)

-- a test against the last of a list
pub comes_after : {A : Type 0} (f : A → List ℕ) (xs : List A) (x : A) (key : List ℕ) (b : Bool) → Some x ≡ slice_get xs (length xs - 1)
    → b ≡ is_lt (by_bytes (f x) key) → IsTrue b ↔ ComesAfter (last_of (map f xs)) key
comes_after f xs x key b last test =
    let there : last_of (map f xs) ≡ Some (f x) = last_map f xs ∙ ap (option_map f) (sym (last_get xs) ∙ sym last) in
    (λ is. subst (λ o. ComesAfter o key) (sym there) (sym test ∙ is), λ comes. test ∙ subst (λ o. ComesAfter o key) there comes)

less : (o : Ordering) → is_lt o ≡ true → o ≡ Less
less Less e = refl
less Equal e = cc
less Greater e = cc

-- the order of bytes is transitive
less_through : (x y z : List ℕ) → is_lt (by_bytes x y) ≡ true → is_lt (by_bytes y z) ≡ true → is_lt (by_bytes x z) ≡ true
less_through x y z p q = ap is_lt (nat_list_cmp_total.trans x y z (less (by_bytes x y) p) (less (by_bytes y z) q))

module _ {X : Type 0} where
  abbrev keys : List (List ℕ × X) → List (List ℕ)
  keys es = map (λ e. e.0) es

  below_push : (x key : List ℕ) (v : X) (es : List (List ℕ × X)) → below_all by_bytes x es ≡ true → is_lt (by_bytes x key) ≡ true → below_all by_bytes x (es ++ (key, v) ∷ []) ≡ true
  below_push x key v [] p q = and_from _ true q refl
  below_push x key v (e ∷ es) p q =
      let parts = and_parts (is_lt (by_bytes x e.0)) (below_all by_bytes x es) p in
      and_from _ _ parts.0 (below_push x key v es parts.1 q)

  -- a key after the last one comes after all
  below_last : (x key : List ℕ) (es : List (List ℕ × X)) → below_all by_bytes x es ≡ true → is_sorted by_bytes es ≡ true → ComesAfter (last_of (keys es)) key → (es ≡ [] → is_lt (by_bytes x key) ≡ true) → is_lt (by_bytes x key) ≡ true
  below_last x key [] p s comes alone = alone refl
  below_last x key (e ∷ []) p s comes alone = less_through x e.0 key (and_parts (is_lt (by_bytes x e.0)) true p).0 comes
  below_last x key (e ∷ f ∷ es) p s comes alone =
      below_last x key (f ∷ es) (and_parts (is_lt (by_bytes x e.0)) (below_all by_bytes x (f ∷ es)) p).1
      (and_parts (below_all by_bytes e.0 (f ∷ es)) (is_sorted by_bytes (f ∷ es)) s).1 comes (λ empty. cc empty)

  -- one entry more, whose key comes after the last
  pub sorted_push : (es : List (List ℕ × X)) (key : List ℕ) (v : X) → is_sorted by_bytes es ≡ true → ComesAfter (last_of (keys es)) key → is_sorted by_bytes (es ++ (key, v) ∷ []) ≡ true
  sorted_push [] key v s comes = refl
  sorted_push (e ∷ []) key v s comes = and_from _ true (and_from _ true comes refl) refl
  sorted_push (e ∷ f ∷ es) key v s comes =
      let parts = and_parts (below_all by_bytes e.0 (f ∷ es)) (is_sorted by_bytes (f ∷ es)) s in
      let under : is_lt (by_bytes e.0 key) ≡ true = below_last e.0 key (f ∷ es) parts.0 parts.1 comes (λ empty. cc empty) in
      and_from _ _ (below_push e.0 key v (f ∷ es) parts.0 under) (sorted_push (f ∷ es) key v parts.1 comes)

  below_has : (x : List ℕ) (es gs : List (List ℕ × X)) (g : List ℕ × X) → below_all by_bytes x (es ++ g ∷ gs) ≡ true → is_lt (by_bytes x g.0) ≡ true
  below_has x [] gs g p = (and_parts (is_lt (by_bytes x g.0)) (below_all by_bytes x gs) p).0
  below_has x (e ∷ es) gs g p = below_has x es gs g (and_parts (is_lt (by_bytes x e.0)) (below_all by_bytes x (es ++ g ∷ gs)) p).1

  -- in a rising list the next key comes after the last of those before
  pub sorted_next : (es gs : List (List ℕ × X)) (g : List ℕ × X) → is_sorted by_bytes (es ++ g ∷ gs) ≡ true → ComesAfter (last_of (keys es)) g.0
  sorted_next [] gs g s = tt
  sorted_next (e ∷ []) gs g s = below_has e.0 [] gs g (and_parts (below_all by_bytes e.0 (g ∷ gs)) (is_sorted by_bytes (g ∷ gs)) s).0
  sorted_next (e ∷ f ∷ es) gs g s = sorted_next (f ∷ es) gs g (and_parts (below_all by_bytes e.0 ((f ∷ es) ++ g ∷ gs)) (is_sorted by_bytes ((f ∷ es) ++ g ∷ gs)) s).1

-- a list without a last is empty
pub none_last : {A B : Type 0} (f : A → B) (xs : List A) → last_of (map f xs) ≡ None → length xs ≡ 0
none_last f [] none = refl
none_last f (x ∷ []) none = cc none
none_last f (x ∷ y ∷ ys) none = absurd (omega (arith, none_last f (y ∷ ys) none))
