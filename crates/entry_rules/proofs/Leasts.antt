-- The first of the changed paths that is not met is the least of both states' paths that is changed and not met.
use Rattle.std.proofs.Common.{◌≡◌, ◌≢◌, ◌⊎◌, ◌||◌, ◌++◌, ℕ, Bool, true, false, cond, List, [], ◌∷◌, Option, Some, None, map, refl, ap, sym, ◌∙◌, subst, inl, inr}
use Rattle.std.specs.Prelude.{not}
use Rattle.std.specs.List.{AllByRecursion, filter, find}
use Rattle.std.specs.FinMap.{get, get-from_entries, nat_cmp-IsAntisymmetric, slice_cmp-IsAntisymmetric}
use Rattle.std.specs.FinMap as fin
use Rattle.std.specs.Ordering.{is_eq, is_gt, ordering_reverse}
use Rattle.std.specs.Str.{bytes_eq}
use Rattle.std.specs.declared.cmp.Ordering.{Ordering}
use Rattle.std.specs.declared.cmp.Ordering.TheVariants.{Less, Equal, Greater}
use Rattle.std.proofs.lemmas.Bool.{cases_Bool, false≢true, true≢false}
use Rattle.std.proofs.lemmas.Cmp.{nat_list_cmp_total, tied_itself, upto}
use Rattle.std.proofs.lemmas.List.Folds.{list_any-append}
use Rattle.std.proofs.lemmas.Slice.Eq.{bytes_eq-Decides}
use Rattle.octets.specs.BytesMap.{by_bytes}
use Rattle.rule_files.specs.declared.rules.RuleFile.{RuleFile}
use Rattle.tree_paths.specs.Changes.{AreChanged, AreRising, has_path}
use Rattle.tree_paths.specs.States.{Ended, PathValue, map_at, path_values, steps_in}
use Rattle.tree_paths.proofs.Ending.{differs_tells}
use Rattle.rule_delegations.specs.Forests.{IsPolicy}
use Rattle.entry_rules.specs.Meeting.{file_name, meets}
use Rattle.entry_rules.specs.Readings.{IsLeast, IsUnmetChange}
use Rattle.entry_rules.proofs.Meetings.{met_true}
use Rattle.entry_rules.specs.Changing.{changed, differs, is_unmet, least_of, least_unmet, lesser, paths_of}

Text : Type 0
Text = List ℕ

same : (a b : List ℕ) → bytes_eq a b ≡ true → a ≡ b
same a b e = (bytes_eq-Decides a b).0 e

itself : (a : List ℕ) → bytes_eq a a ≡ true
itself a = (bytes_eq-Decides a a).1 refl

or_true : (b : Bool) → (b || true) ≡ true
or_true true = refl
or_true false = refl

-- ---- members
module _ (x : List ℕ) (xs : List (List ℕ)) (p : List ℕ) where
  here_or : has_path (x ∷ xs) p ≡ true → (x ≡ p) ⊎ (has_path xs p ≡ true)
  here_or e = elim (cases_Bool (bytes_eq x p)) [
    | inl is ↦ inl (same x p is)
    | inr isnt ↦ inr (sym (ap (λ b. b || has_path xs p) isnt) ∙ e)
  ]

  is_here : x ≡ p → has_path (x ∷ xs) p ≡ true
  is_here is = ap (λ b. b || has_path xs p) (ap (λ q. bytes_eq q p) is ∙ itself p)

  is_later : has_path xs p ≡ true → has_path (x ∷ xs) p ≡ true
  is_later e = ap (λ b. bytes_eq x p || b) e ∙ or_true (bytes_eq x p)

in_filter : (test : List ℕ → Bool) (xs : List (List ℕ)) (p : List ℕ) → has_path (filter test xs) p ≡ true → (has_path xs p ≡ true) × (test p ≡ true)
in_filter test [] p e = absurd (false≢true e)
in_filter test (x ∷ xs) p e = by_test (test x) refl e (in_filter test xs p) where
  by_test : (b : Bool) → test x ≡ b → has_path (cond b (x ∷ filter test xs) (filter test xs)) p ≡ true
      → (has_path (filter test xs) p ≡ true → (has_path xs p ≡ true) × (test p ≡ true)) → (has_path (x ∷ xs) p ≡ true) × (test p ≡ true)
  by_test true is e later = elim (here_or x (filter test xs) p e) [
    | inl at ↦ (is_here x xs p at, ap test (sym at) ∙ is)
    | inr rest ↦ let w = later rest in (is_later x xs p w.0, w.1)
  ]
  by_test false is e later = let w = later e in (is_later x xs p w.0, w.1)

filter_in : (test : List ℕ → Bool) (xs : List (List ℕ)) (p : List ℕ) → has_path xs p ≡ true → test p ≡ true → has_path (filter test xs) p ≡ true
filter_in test [] p e passes = absurd (false≢true e)
filter_in test (x ∷ xs) p e passes = by_test (test x) refl (here_or x xs p e) (λ h. filter_in test xs p h passes) where
  by_test : (b : Bool) → test x ≡ b → (x ≡ p) ⊎ (has_path xs p ≡ true) → (has_path xs p ≡ true → has_path (filter test xs) p ≡ true)
      → has_path (cond b (x ∷ filter test xs) (filter test xs)) p ≡ true
  by_test true is where_is later = elim where_is [ inl at ↦ is_here x (filter test xs) p at | inr rest ↦ is_later x (filter test xs) p (later rest) ]
  by_test false is where_is later = elim where_is [ inl at ↦ absurd (false≢true (sym is ∙ ap test at ∙ passes)) | inr rest ↦ later rest ]

-- ---- the least
at_most : List ℕ → List ℕ → Type 0
at_most a b = is_gt (by_bytes a b) ≡ false

not_more : (a b : List ℕ) → by_bytes b a ≡ Greater → is_gt (by_bytes a b) ≡ false
not_more a b e = ap is_gt (nat_list_cmp_total.antisymm a b ∙ ap ordering_reverse e)

is_greater : (o : Ordering) → is_gt o ≡ true → o ≡ Greater
is_greater Less e = absurd (false≢true e)
is_greater Equal e = absurd (false≢true e)
is_greater Greater e = refl

no_least : (xs : List (List ℕ)) → least_of xs ≡ None → xs ≡ []
no_least [] e = refl
no_least (x ∷ xs) e = absurd (let clash : Some (lesser x (least_of xs)) ≡ None = e in cc)

record IsLeastOf (xs : List (List ℕ)) (m : List ℕ) : Type 0 where
  there : has_path xs m ≡ true
  least : (y : List ℕ) → has_path xs y ≡ true → is_gt (by_bytes m y) ≡ false

least_there : (xs : List (List ℕ)) (m : List ℕ) → least_of xs ≡ Some m → IsLeastOf xs m
least_there [] m e = absurd (let clash : None ≡ Some m = e in cc)
least_there (x ∷ xs) m e = by_rest (least_of xs) refl e (least_there xs) where
  itself_not_more : is_gt (by_bytes x x) ≡ false
  itself_not_more = ap is_gt (tied_itself nat_list_cmp_total x)

  by_test : (n : List ℕ) (b : Bool) → is_gt (by_bytes x n) ≡ b → IsLeastOf xs n → IsLeastOf (x ∷ xs) (cond b n x)
  by_test n true is rest = record {
    there = is_later x xs n rest.there;
    least = λ y h. elim (here_or x xs y h) [
      | inl at ↦ ap (λ q. is_gt (by_bytes n q)) (sym at) ∙ not_more n x (is_greater (by_bytes x n) is)
      | inr later ↦ rest.least y later
    ];
  }
  by_test n false is rest = record {
    there = is_here x xs x refl;
    least = λ y h. elim (here_or x xs y h) [
      | inl at ↦ ap (λ q. is_gt (by_bytes x q)) (sym at) ∙ itself_not_more
      | inr later ↦ upto nat_list_cmp_total x n y is (rest.least y later)
    ];
  }

  by_rest : (o : Option (List ℕ)) → least_of xs ≡ o → Some (lesser x o) ≡ Some m → ((n : List ℕ) → least_of xs ≡ Some n → IsLeastOf xs n) → IsLeastOf (x ∷ xs) m
  by_rest None none e rest =
      let at : x ≡ m = cc in
      let empty : xs ≡ [] = no_least xs none in
      subst (IsLeastOf (x ∷ xs)) at (record {
        there = is_here x xs x refl;
        least = λ y h. elim (here_or x xs y h) [
          | inl here ↦ ap (λ q. is_gt (by_bytes x q)) (sym here) ∙ itself_not_more
          | inr later ↦ absurd (false≢true (ap (λ ys. has_path ys y) (sym empty) ∙ later))
        ];
      })
  by_rest (Some n) some e rest =
      let at : cond (is_gt (by_bytes x n)) n x ≡ m = cc in
      subst (IsLeastOf (x ∷ xs)) at (by_test n (is_gt (by_bytes x n)) refl (rest n some))

-- ---- the first that passes, of a rising list
found_none : (test : List ℕ → Bool) (xs : List (List ℕ)) → find test xs ≡ None → (p : List ℕ) → has_path xs p ≡ true → test p ≡ false
found_none test [] e p h = absurd (false≢true h)
found_none test (x ∷ xs) e p h = by_test (test x) refl e (found_none test xs) where
  by_test : (b : Bool) → test x ≡ b → cond b (Some x) (find test xs) ≡ None → (find test xs ≡ None → (q : List ℕ) → has_path xs q ≡ true → test q ≡ false) → test p ≡ false
  by_test true is e later = absurd (let clash : Some x ≡ None = e in cc)
  by_test false is e later = elim (here_or x xs p h) [ inl at ↦ ap test (sym at) ∙ is | inr rest ↦ later e p rest ]

all_after : (x : List ℕ) (xs : List (List ℕ)) (q : List ℕ) → AllByRecursion (λ y. by_bytes x y ≡ Less) xs → has_path xs q ≡ true → by_bytes x q ≡ Less
all_after x [] q a h = absurd (false≢true h)
all_after x (y ∷ ys) q a h = elim (here_or y ys q h) [ inl at ↦ subst (λ z. by_bytes x z ≡ Less) at a.0 | inr later ↦ all_after x ys q a.1 later ]

record IsFirst (test : List ℕ → Bool) (xs : List (List ℕ)) (p : List ℕ) : Type 0 where
  there : has_path xs p ≡ true
  passes : test p ≡ true
  first : (q : List ℕ) → has_path xs q ≡ true → test q ≡ true → (p ≡ q) ⊎ (by_bytes p q ≡ Less)

found_first : (test : List ℕ → Bool) (xs : List (List ℕ)) (p : List ℕ) → AreRising xs → find test xs ≡ Some p → IsFirst test xs p
found_first test [] p rising e = absurd (let clash : None ≡ Some p = e in cc)
found_first test (x ∷ xs) p rising e = by_test (test x) refl e (found_first test xs p rising.1) where
  by_test : (b : Bool) → test x ≡ b → cond b (Some x) (find test xs) ≡ Some p → (find test xs ≡ Some p → IsFirst test xs p) → IsFirst test (x ∷ xs) p
  by_test true is e later =
      let at : x ≡ p = cc in
      subst (IsFirst test (x ∷ xs)) at (record {
        there = is_here x xs x refl;
        passes = is;
        first = λ q h passes. elim (here_or x xs q h) [ inl here ↦ inl here | inr after ↦ inr (all_after x xs q rising.0 after) ];
      })
  by_test false is e later =
      let rest = later e in
      record {
        there = is_later x xs p rest.there;
        passes = rest.passes;
        first = λ q h passes. elim (here_or x xs q h) [ inl here ↦ absurd (false≢true (sym is ∙ ap test here ∙ passes)) | inr after ↦ rest.first q after passes ];
      }

-- two lists with the same members that pass
first_is_least : (test : List ℕ → Bool) (paths xs : List (List ℕ)) → AreRising paths
    → ((p : List ℕ) → has_path xs p ≡ true → (has_path paths p ≡ true) × (test p ≡ true)) → ((p : List ℕ) → has_path paths p ≡ true → test p ≡ true → has_path xs p ≡ true)
    → find test paths ≡ least_of xs
first_is_least test paths xs rising inside outside = by_found (find test paths) refl (least_of xs) refl where
  by_found : (found : Option (List ℕ)) → find test paths ≡ found → (least : Option (List ℕ)) → least_of xs ≡ least → found ≡ least
  by_found None none None is = refl
  by_found None none (Some m) is =
      let l = least_there xs m is in
      let w = inside m l.there in
      absurd (false≢true (sym (found_none test paths none m w.0) ∙ w.1))
  by_found (Some p) some None is =
      let f = found_first test paths p rising some in
      absurd (false≢true (ap (λ ys. has_path ys p) (sym (no_least xs is)) ∙ outside p f.there f.passes))
  by_found (Some p) some (Some m) is =
      let f = found_first test paths p rising some in
      let l = least_there xs m is in
      let w = inside m l.there in
      elim (f.first m w.0 w.1) [
        | inl at ↦ ap Some at
        | inr less ↦
            let more : is_gt (by_bytes m p) ≡ true = ap is_gt (nat_list_cmp_total.antisymm m p ∙ ap ordering_reverse less) in
            absurd (true≢false (sym more ∙ l.least p (outside p f.there f.passes)))
      ]

-- ---- the paths of both states
same_key : (p q : List ℕ) → is_eq (by_bytes p q) ≡ true → p ≡ q
same_key p q e = by_order (by_bytes p q) refl e where
  by_order : (o : Ordering) → by_bytes p q ≡ o → is_eq o ≡ true → p ≡ q
  by_order Less is e = absurd (false≢true e)
  by_order Equal is e = slice_cmp-IsAntisymmetric nat_cmp-IsAntisymmetric p q is
  by_order Greater is e = absurd (false≢true e)

key_there : (es : List (List ℕ × PathValue)) (p : List ℕ) (v : PathValue) → fin.find by_bytes p es ≡ Some v → has_path (map (λ e. e.0) es) p ≡ true
key_there [] p v e = absurd (let clash : None ≡ Some v = e in cc)
key_there (x ∷ es) p v e = by_key (is_eq (by_bytes p x.0)) refl e (key_there es p v) where
  by_key : (b : Bool) → is_eq (by_bytes p x.0) ≡ b → cond b (Some x.1) (fin.find by_bytes p es) ≡ Some v → (fin.find by_bytes p es ≡ Some v → has_path (map (λ e. e.0) es) p ≡ true)
      → has_path (x.0 ∷ map (λ e. e.0) es) p ≡ true
  by_key true is e later = is_here x.0 (map (λ e. e.0) es) p (sym (same_key p x.0 is))
  by_key false is e later = is_later x.0 (map (λ e. e.0) es) p (later e)

path_there : (s : Ended) (p : List ℕ) (v : PathValue) → get (map_at s) p ≡ Some v → has_path (paths_of s) p ≡ true
path_there s p v e = key_there (path_values (steps_in s)) p v (sym (get-from_entries nat_list_cmp_total (path_values (steps_in s)) p) ∙ e)

one_there : (s t : Ended) (p : List ℕ) → get (map_at s) p ≢ get (map_at t) p → has_path (paths_of s ++ paths_of t) p ≡ true
one_there s t p other = list_any-append (λ q. bytes_eq q p) (paths_of s) (paths_of t) ∙ by_value (get (map_at s) p) refl (get (map_at t) p) refl where
  by_value : (v : Option PathValue) → get (map_at s) p ≡ v → (w : Option PathValue) → get (map_at t) p ≡ w → (has_path (paths_of s) p || has_path (paths_of t) p) ≡ true
  by_value (Some v) is w too = ap (λ b. b || has_path (paths_of t) p) (path_there s p v is)
  by_value None is (Some w) too = ap (λ b. has_path (paths_of s) p || b) (path_there t p w too) ∙ or_true (has_path (paths_of s) p)
  by_value None is None too = absurd (other (is ∙ sym too))

pub first_unmet_is : (files : List RuleFile) (signers : List (List ℕ)) (s t : Ended) (paths : List (List ℕ)) → AreChanged (map_at s) (map_at t) paths → find (is_unmet files signers) paths ≡ least_unmet files signers s t
first_unmet_is files signers s t paths are =
    first_is_least (is_unmet files signers) paths (filter (is_unmet files signers) (changed s t)) are.rising
    (λ p h.
    let unmet = in_filter (is_unmet files signers) (changed s t) p h in
    let differ = in_filter (differs s t) (paths_of s ++ paths_of t) p unmet.0 in
    ((are.changed p).1 ((differs_tells (get (map_at s) p) (get (map_at t) p) (differs s t p) refl).0 differ.1), unmet.1))
    (λ p h unmet.
    let other = (are.changed p).0 h in
    filter_in (is_unmet files signers) (changed s t) p (filter_in (differs s t) (paths_of s ++ paths_of t) p (one_there s t p other) ((differs_tells (get (map_at s) p) (get (map_at t) p) (differs s t p) refl).1 other)) unmet)

-- ---- the same, in the words of the rules
is_false : (b : Bool) → not b ≡ true → b ≡ false
is_false true e = absurd (false≢true e)
is_false false e = refl

is_unmet_true : (b : Bool) → (b ≡ true → ⊥) → not b ≡ true
is_unmet_true true h = absurd (h refl)
is_unmet_true false h = refl

module _ (files : List RuleFile) (signers : List (List ℕ)) (s t : Ended) (policy : IsPolicy files) where
  told_there : (path : List ℕ) → has_path (filter (is_unmet files signers) (changed s t)) path ≡ true → IsUnmetChange files signers s t path
  told_there path h =
      let unmet = in_filter (is_unmet files signers) (changed s t) path h in
      let differ = in_filter (differs s t) (paths_of s ++ paths_of t) path unmet.0 in
      record {
        changed = (differs_tells (get (map_at s) path) (get (map_at t) path) (differs s t path) refl).0 differ.1;
        unmet = λ meets. true≢false (sym ((met_true files (file_name path) policy signers).0 meets) ∙ is_false _ unmet.1);
      }

  there_told : (path : List ℕ) → IsUnmetChange files signers s t path → has_path (filter (is_unmet files signers) (changed s t)) path ≡ true
  there_told path is =
      filter_in (is_unmet files signers) (changed s t) path
      (filter_in (differs s t) (paths_of s ++ paths_of t) path (one_there s t path is.changed) ((differs_tells (get (map_at s) path) (get (map_at t) path) (differs s t path) refl).1 is.changed))
      (is_unmet_true (meets files (file_name path) signers) (λ met. is.unmet ((met_true files (file_name path) policy signers).1 met)))

  by_least : (least : Option (List ℕ)) → least_unmet files signers s t ≡ least → IsLeast files signers s t least
  by_least None is = λ path unmet. false≢true (ap (λ xs. has_path xs path) (sym (no_least (filter (is_unmet files signers) (changed s t)) is)) ∙ there_told path unmet)
  by_least (Some path) is =
      let least = least_there (filter (is_unmet files signers) (changed s t)) path is in
      record { is = told_there path least.there; least = λ other unmet. least.least other (there_told other unmet) }

  pub least_is : IsLeast files signers s t (least_unmet files signers s t)
  least_is = by_least (least_unmet files signers s t) refl
