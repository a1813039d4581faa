-- Where a walk breaks: at the first of its steps that is bad behind those before it.
use Rattle.std.proofs.Common.{◌≡◌, ◌<◌, ◌+◌, ◌==◌, ◌&&◌, ◌||◌, ◌++◌, ◌∷◌, [], ℕ, Bool, true, false, cond, not, List, length, Option, Some, None, refl, sym, ap, subst, ◌∙◌, inl, inr, arith, append_assoc, length-append}
use Rattle.std.proofs.lemmas.List.{append-nil}
use Rattle.std.specs.Prelude.{◌⊎◌, ◌≢◌, nat_le, sum_by}
use Rattle.std.proofs.lemmas.Bool.{cases_Bool, cases_eq, cases_lt, false≢true, true≢false, ne_eqb}
use Rattle.std.proofs.lemmas.Bool.Decides.{nat_tests}
use Rattle.std.proofs.lemmas.List.Sums.{sum_by_push}
use Rattle.git_object.specs.declared.trees.TreeEntry.{TreeEntry}
use Rattle.tree_paths.specs.Broken.{IsBadStep, IsFirstBad, IsPast, IsShut, tree_named}
use Rattle.tree_paths.specs.Listings.{leaves}
use Rattle.tree_paths.specs.Readings.{Trees}
use Rattle.tree_paths.specs.Walks.{Leaf, Step, Visit, goes_on, has_room, is_open, judge, no_counts, one_dir, one_path, take_step}
use Rattle.tree_paths.specs.declared.counts.Counts.{Counts}
use Rattle.tree_paths.specs.declared.counts.Walked.{Walked}
use Rattle.tree_paths.specs.declared.counts.Walked.TheVariants.{Broken, Counted}

-- ---- tests

open_shut : (left : ℕ) (place : List ℕ) (tree : Option (List TreeEntry)) → is_open left (length place == 0) tree ≡ true → IsShut left place tree → ⊥
open_shut left place None e shut = false≢true e
open_shut left place (Some entries) e shut = elim shut [
  | inl none ↦ none_left left none e
  | inr bare ↦ by_lists place entries bare.0 bare.1 e
]
  where
    none_left : (n : ℕ) → n ≡ 0 → is_open n (length place == 0) (Some entries) ≡ true → ⊥
    none_left n is f =
        let shut : nat_le 1 n ≡ false = grind (arith, nat_tests) in
        false≢true (sym (ap (λ (b : Bool). b && (length place == 0 || not (length entries == 0))) shut) ∙ f)

    by_lists : (p : List ℕ) (es : List TreeEntry) → p ≢ [] → es ≡ [] → is_open left (length p == 0) (Some es) ≡ true → ⊥
    by_lists [] es some bare f = some refl
    by_lists (x ∷ p) (y ∷ es) some bare f = let clash : y ∷ es ≡ [] = bare in cc
    by_lists (x ∷ p) [] some bare f = elim (cases_Bool (nat_le 1 left)) [
      | inl level ↦ false≢true (sym (ap (λ (b : Bool). b && (length (x ∷ p) == 0 || not (0 == 0))) level ∙ ap (λ (b : Bool). b || not (0 == 0)) (ne_eqb (length (x ∷ p)) 0 (λ e. omega (arith, e)))) ∙ f)
      | inr none ↦ false≢true (sym (ap (λ (b : Bool). b && (length (x ∷ p) == 0 || not (0 == 0))) none) ∙ f)
    ]

shut_open : (left : ℕ) (place : List ℕ) (tree : Option (List TreeEntry)) → is_open left (length place == 0) tree ≡ false → IsShut left place tree
shut_open left place None e = tt
shut_open left place (Some entries) e = elim (cases_eq left 0) [
  | inl none ↦ inl none
  | inr some ↦
      let level : nat_le 1 left ≡ true = grind (arith, nat_tests) in
      inr (by_lists place entries (sym (ap (λ (b : Bool). b && (length place == 0 || not (length entries == 0))) level) ∙ e))
]
  where
    by_lists : (p : List ℕ) (es : List TreeEntry) → (length p == 0 || not (length es == 0)) ≡ false → (p ≢ []) × (es ≡ [])
    by_lists [] es f = absurd (true≢false f)
    by_lists (x ∷ p) [] f = (λ e. let clash : x ∷ p ≡ [] = e in cc, refl)
    by_lists (x ∷ p) (y ∷ es) f =
        absurd (true≢false (sym (ap (λ (b : Bool). b || not (length (y ∷ es) == 0)) (ne_eqb (length (x ∷ p)) 0 (λ e. omega (arith, e))) ∙ ap not (ne_eqb (length (y ∷ es)) 0 (λ e. omega (arith, e)))) ∙ f))

abbrev Past : ℕ → ℕ → ℕ → Type 0
Past len paths bytes = (262144 < paths + 1) ⊎ ((4096 < len) ⊎ (67108864 < bytes + len))

room_past : (c : Counts) (len : ℕ) → has_room c len ≡ true → ((262144 < c.paths + 1) ⊎ ((4096 < len) ⊎ (67108864 < c.bytes + len))) → ⊥
room_past c len e past = elim past [
  | inl many ↦ false≢true (grind (arith, nat_tests))
  | inr more ↦ elim more [ inl long ↦ false≢true (grind (arith, nat_tests)) | inr large ↦ false≢true (grind (arith, nat_tests)) ]
]

past_room : (c : Counts) (len : ℕ) → has_room c len ≡ false → (262144 < c.paths + 1) ⊎ ((4096 < len) ⊎ (67108864 < c.bytes + len))
past_room c len e = elim (cases_lt 262144 (c.paths + 1)) [
  | inl many ↦ inl many
  | inr few ↦ elim (cases_lt 4096 len) [
    | inl long ↦ inr (inl long)
    | inr short ↦ elim (cases_lt 67108864 (c.bytes + len)) [ inl large ↦ inr (inr large) | inr small ↦ absurd (true≢false (grind (arith, nat_tests))) ]
  ]
]

-- ---- counts of the steps that are done

leaves_visit : (done : List Step) (left : ℕ) (place id : List ℕ) → leaves (done ++ Visit left place id ∷ []) ≡ leaves done
leaves_visit [] left place id = refl
leaves_visit (Visit l p i ∷ xs) left place id = leaves_visit xs left place id
leaves_visit (Leaf h p m i ∷ xs) left place id = ap (λ (ps : List (List ℕ)). p ∷ ps) (leaves_visit xs left place id)

leaves_leaf : (done : List Step) (holder path : List ℕ) (mode : _) (id : List ℕ) → leaves (done ++ Leaf holder path mode id ∷ []) ≡ leaves done ++ path ∷ []
leaves_leaf [] holder path mode id = refl
leaves_leaf (Visit l p i ∷ xs) holder path mode id = leaves_leaf xs holder path mode id
leaves_leaf (Leaf h p m i ∷ xs) holder path mode id = ap (λ (ps : List (List ℕ)). p ∷ ps) (leaves_leaf xs holder path mode id)

pub record Fits (done : List Step) (c : Counts) : Type 0 where
  pub paths : c.paths ≡ length (leaves done)
  pub bytes : c.bytes ≡ sum_by length (leaves done)

pub none_fits : Fits [] no_counts
none_fits = record { paths = refl; bytes = refl }

record TakenBad (trees : Trees) (done : List Step) (c : Counts) (x : Step) : Type 0 where
  told : take_step trees c x ≡ Broken (tree_named x)
  bad : IsBadStep trees done x

record TakenGood (trees : Trees) (done : List Step) (c : Counts) (x : Step) : Type 0 where
  next : Counts
  told : take_step trees c x ≡ Counted next
  fits : Fits (done ++ x ∷ []) next
  good : IsBadStep trees done x → ⊥

taken : (trees : Trees) (done : List Step) (c : Counts) (x : Step) → Fits done c → TakenBad trees done c x ⊎ TakenGood trees done c x
taken trees done c (Visit left place id) fits = elim (cases_Bool (is_open left (length place == 0) (trees id))) [
  | inl opens ↦ inr (record {
    next = one_dir c;
    told = ap (λ (b : Bool). cond b (Counted (one_dir c)) (Broken id)) opens;
    fits = record {
      paths = fits.paths ∙ ap length (sym (leaves_visit done left place id));
      bytes = fits.bytes ∙ ap (sum_by length) (sym (leaves_visit done left place id));
    };
    good = open_shut left place (trees id) opens;
  })
  | inr shut ↦ inl (record {
    told = ap (λ (b : Bool). cond b (Counted (one_dir c)) (Broken id)) shut;
    bad = shut_open left place (trees id) shut;
  })
]
taken trees done c (Leaf holder path mode id) fits = elim (cases_Bool (has_room c (length path))) [
  | inl room ↦ inr (record {
    next = one_path c (length path);
    told = ap (λ (b : Bool). cond b (Counted (one_path c (length path))) (Broken holder)) room;
    fits = record {
      paths = ap (λ (n : ℕ). n + 1) fits.paths ∙ sym (ap length (leaves_leaf done holder path mode id) ∙ length-append (leaves done) (path ∷ []));
      bytes = ap (λ (n : ℕ). n + length path) fits.bytes ∙ sym (ap (sum_by length) (leaves_leaf done holder path mode id) ∙ sum_by_push length (leaves done) path);
    };
    good = λ past. room_past c (length path) room (at_counts past);
  })
  | inr full ↦ inl (record {
    told = ap (λ (b : Bool). cond b (Counted (one_path c (length path))) (Broken holder)) full;
    bad = at_paths (past_room c (length path) full);
  })
]
  where
    at_counts : IsPast done path → Past (length path) c.paths c.bytes
    at_counts h = subst (λ (n : ℕ). Past (length path) n c.bytes) (sym fits.paths) (subst (Past (length path) (length (leaves done))) (sym fits.bytes) h)

    at_paths : Past (length path) c.paths c.bytes → IsPast done path
    at_paths h = subst (Past (length path) (length (leaves done))) fits.bytes (subst (λ (n : ℕ). Past (length path) n c.bytes) fits.paths h)

-- ---- the first bad step

module _ (trees : Trees) where
  nothing_more : (done : List Step) (x : Step) → IsBadStep trees (done ++ []) x → IsBadStep trees done x
  nothing_more done x = subst (λ (d : List Step). IsBadStep trees d x) (append-nil done)

  no_more : (done : List Step) (x : Step) → IsBadStep trees done x → IsBadStep trees (done ++ []) x
  no_more done x = subst (λ (d : List Step). IsBadStep trees d x) (sym (append-nil done))

  moved : (done front : List Step) (x y : Step) → IsBadStep trees ((done ++ x ∷ []) ++ front) y → IsBadStep trees (done ++ x ∷ front) y
  moved done front x y = subst (λ (d : List Step). IsBadStep trees d y) (append_assoc done (x ∷ []) front)

  moved_back : (done front : List Step) (x y : Step) → IsBadStep trees (done ++ x ∷ front) y → IsBadStep trees ((done ++ x ∷ []) ++ front) y
  moved_back done front x y = subst (λ (d : List Step). IsBadStep trees d y) (sym (append_assoc done (x ∷ []) front))

  pub broken_first : (done rest : List Step) (c : Counts) (id : List ℕ) → Fits done c → judge trees rest c ≡ Broken id → IsFirstBad trees done rest id
  broken_first done [] c id fits e = absurd (let clash : Counted c ≡ Broken id = e in cc)
  broken_first done (x ∷ xs) c id fits e = elim (taken trees done c x fits) [
    | inl bad ↦
        let same : Broken (tree_named x) ≡ Broken id = sym (ap (λ (w : Walked). goes_on w (judge trees xs)) bad.told) ∙ e in
        record {
          before = [];
          step = x;
          after = xs;
          is = refl;
          bad = no_more done x bad.bad;
          good = λ front other rest at b. none_before front other rest at;
          named = cc;
        }
    | inr good ↦
        let next = broken_first (done ++ x ∷ []) xs good.next id good.fits (sym (ap (λ (w : Walked). goes_on w (judge trees xs)) good.told) ∙ e) in
        record {
          before = x ∷ next.before;
          step = next.step;
          after = next.after;
          is = ap (λ (ss : List Step). x ∷ ss) next.is;
          bad = moved done next.before x next.step next.bad;
          good = λ front other rest at b. by_front next.before good.good next.good front other rest at b;
          named = next.named;
        }
  ]
    where
      none_before : (front : List Step) (other : Step) (rest : List Step) → [] ≡ front ++ other ∷ rest → ⊥
      none_before [] other rest at = let clash : [] ≡ other ∷ rest = at in cc
      none_before (y ∷ ys) other rest at = let clash : [] ≡ y ∷ (ys ++ other ∷ rest) = at in cc

      by_front : (before : List Step) → (IsBadStep trees done x → ⊥)
          → ((front : List Step) (other : Step) (rest : List Step) → before ≡ front ++ other ∷ rest → IsBadStep trees ((done ++ x ∷ []) ++ front) other → ⊥)
          → (front : List Step) (other : Step) (rest : List Step) → x ∷ before ≡ front ++ other ∷ rest → IsBadStep trees (done ++ front) other → ⊥
      by_front before first later [] other rest at b =
          let same : x ≡ other = cc in
          first (nothing_more done x (subst (IsBadStep trees (done ++ [])) (sym same) b))
      by_front before first later (y ∷ ys) other rest at b =
          let same : x ≡ y = cc in
          let tail : before ≡ ys ++ other ∷ rest = cc in
          later ys other rest tail (moved_back done ys x other (subst (λ (z : Step). IsBadStep trees (done ++ z ∷ ys) other) (sym same) b))

  pub first_broken : (done before : List Step) (step : Step) (after : List Step) (c : Counts) → Fits done c → IsBadStep trees (done ++ before) step
      → ((front : List Step) (other : Step) (rest : List Step) → before ≡ front ++ other ∷ rest → IsBadStep trees (done ++ front) other → ⊥)
      → judge trees (before ++ step ∷ after) c ≡ Broken (tree_named step)
  first_broken done [] step after c fits bad good = elim (taken trees done c step fits) [
    | inl is ↦ ap (λ (w : Walked). goes_on w (judge trees after)) is.told
    | inr isnt ↦ absurd (isnt.good (nothing_more done step bad))
  ]
  first_broken done (x ∷ xs) step after c fits bad good = elim (taken trees done c x fits) [
    | inl is ↦ absurd (good [] x xs refl (no_more done x is.bad))
    | inr isnt ↦
        ap (λ (w : Walked). goes_on w (judge trees (xs ++ step ∷ after))) isnt.told
        ∙ first_broken (done ++ x ∷ []) xs step after isnt.next isnt.fits (moved_back done xs x step bad)
        (λ front other rest at b. good (x ∷ front) other rest (ap (λ (ss : List Step). x ∷ ss) at) (moved done front x other b))
  ]
