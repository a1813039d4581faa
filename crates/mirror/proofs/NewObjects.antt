-- Of offered objects those that are kept so need not be written.
use Rattle.std.proofs.Common.{◌≡◌, ℕ, Bool, true, false, cond, List, [], ◌∷◌, Option, Some, None, refl, sym, ap, ◌∙◌}
use Rattle.std.specs.Prelude.{not}
use Rattle.std.specs.Option.{option_or}
use Rattle.std.specs.FinMap.{empty, get, get-empty, get-insert, insert}
use Rattle.std.specs.List.{filter}
use Rattle.std.specs.Ordering.{eq_by_cmp}
use Rattle.std.specs.Str.{bytes_eq}
use Rattle.std.proofs.lemmas.Bool.{and_parts, false≢true, true≢false}
use Rattle.std.proofs.lemmas.Cmp.{nat_list_cmp_total}
use Rattle.std.proofs.lemmas.Slice.Eq.{bytes_eq-Decides}
use Rattle.octets.specs.BytesMap.{BytesMap, by_bytes}
use Rattle.git_object.specs.Objects.{Pair, kind_name, pair_id}
use Rattle.git_object.specs.declared.kinds.Kind.{Kind}
use Rattle.git_object.specs.declared.kinds.Kind.TheVariants.{Blob, Tree, Commit, Tag}
use Rattle.keeper_api.specs.Changes.{with_objects}
use Rattle.mirror.specs.Changes.{differs, is_new, is_same, new_objects}
use Rattle.mirror.proofs.Keys.{told_apart}

abbrev Pairs : Type 0
Pairs = BytesMap Pair

-- ---- one object

one_kind : (a b : Kind) → bytes_eq (kind_name a) (kind_name b) ≡ true → a ≡ b
one_kind Blob Blob same = refl
one_kind Blob Tree same = absurd (false≢true same)
one_kind Blob Commit same = absurd (false≢true same)
one_kind Blob Tag same = absurd (false≢true same)
one_kind Tree Blob same = absurd (false≢true same)
one_kind Tree Tree same = refl
one_kind Tree Commit same = absurd (false≢true same)
one_kind Tree Tag same = absurd (false≢true same)
one_kind Commit Blob same = absurd (false≢true same)
one_kind Commit Tree same = absurd (false≢true same)
one_kind Commit Commit same = refl
one_kind Commit Tag same = absurd (false≢true same)
one_kind Tag Blob same = absurd (false≢true same)
one_kind Tag Tree same = absurd (false≢true same)
one_kind Tag Commit same = absurd (false≢true same)
one_kind Tag Tag same = refl

one_pair : (a b : Pair) → is_same a b ≡ true → a ≡ b
one_pair a b same =
    let parts = and_parts (bytes_eq (kind_name a.kind) (kind_name b.kind)) (bytes_eq a.body b.body) same in
    let with_kind : Kind → Pair = λ kind. record { kind = kind; body = a.body } in
    let with_body : List ℕ → Pair = λ body. record { kind = b.kind; body = body } in
    ap with_kind (one_kind a.kind b.kind parts.0) ∙ ap with_body ((bytes_eq-Decides a.body b.body).0 parts.1)

not_false : (b : Bool) → not b ≡ false → b ≡ true
not_false true h = refl
not_false false h = absurd (true≢false h)

-- what does not differ is what comes of putting the one over the other
same_kept : (kept offered : Option Pair) → differs kept offered ≡ false → kept ≡ option_or offered kept
same_kept None offered same = absurd (true≢false same)
same_kept (Some a) None same = refl
same_kept (Some a) (Some b) same = ap Some (one_pair a b (not_false (is_same a b) same))

-- ---- a list of objects

put : (m : Pairs) (pair : Pair) (id : List ℕ)
    → get (insert m (pair_id pair) pair) id ≡ cond (eq_by_cmp by_bytes id (pair_id pair)) (Some pair) (get m id)
put m pair id = get-insert nat_list_cmp_total m (pair_id pair) pair id

-- what objects make of an id depends on what stood there alone
alike : (pairs : List Pair) (m n : Pairs) (id : List ℕ) → get m id ≡ get n id → get (with_objects pairs m) id ≡ get (with_objects pairs n) id
alike [] m n id e = e
alike (pair ∷ pairs) m n id e =
    alike pairs (insert m (pair_id pair) pair) (insert n (pair_id pair) pair) id
    (put m pair id ∙ ap (cond (eq_by_cmp by_bytes id (pair_id pair)) (Some pair)) e ∙ sym (put n pair id))

module _ (keep : List ℕ → Bool) where
  abbrev those : List Pair → List Pair
  those pairs = filter (λ pair. keep (pair_id pair)) pairs

  passes : (m : Pairs) (pair : Pair) (id : List ℕ) → (keep id ≡ keep (pair_id pair) → ⊥) → get (insert m (pair_id pair) pair) id ≡ get m id
  passes m pair id differ = put m pair id ∙ ap (λ (b : Bool). cond b (Some pair) (get m id)) (told_apart keep id (pair_id pair) differ)

  -- at an id that is passed over the objects leave what stands there
  left_out : (pairs : List Pair) (m : Pairs) (id : List ℕ) → keep id ≡ false → get (with_objects (those pairs) m) id ≡ get m id
  left_out [] m id out = refl
  left_out (pair ∷ pairs) m id out = by_test (keep (pair_id pair)) refl (λ n. left_out pairs n id out) where
    by_test : (b : Bool) → keep (pair_id pair) ≡ b → ((n : Pairs) → get (with_objects (those pairs) n) id ≡ get n id)
        → get (with_objects (cond b (pair ∷ those pairs) (those pairs)) m) id ≡ get m id
    by_test true is later = later (insert m (pair_id pair) pair) ∙ passes m pair id (λ same. true≢false (sym is ∙ sym same ∙ out))
    by_test false is later = later m

  -- and at each other they make what all make
  taken_in : (pairs : List Pair) (m : Pairs) (id : List ℕ) → keep id ≡ true → get (with_objects (those pairs) m) id ≡ get (with_objects pairs m) id
  taken_in [] m id taken = refl
  taken_in (pair ∷ pairs) m id taken = by_test (keep (pair_id pair)) refl (λ n. taken_in pairs n id taken) where
    by_test : (b : Bool) → keep (pair_id pair) ≡ b → ((n : Pairs) → get (with_objects (those pairs) n) id ≡ get (with_objects pairs n) id)
        → get (with_objects (cond b (pair ∷ those pairs) (those pairs)) m) id ≡ get (with_objects pairs (insert m (pair_id pair) pair)) id
    by_test true is later = later (insert m (pair_id pair) pair)
    by_test false is later =
        later m ∙ alike pairs m (insert m (pair_id pair) pair) id (sym (passes m pair id (λ same. true≢false (sym taken ∙ same ∙ is))))

-- ---- all offered objects

one_put : (b : Bool) (pair : Pair) (x y k : Option Pair) → x ≡ option_or y k → cond b (Some pair) x ≡ option_or (cond b (Some pair) y) k
one_put true pair x y k e = refl
one_put false pair x y k e = e

all_put : (pairs : List Pair) (m n : Pairs) (k : Option Pair) (id : List ℕ) → get m id ≡ option_or (get n id) k → get (with_objects pairs m) id ≡ option_or (get (with_objects pairs n) id) k
all_put [] m n k id e = e
all_put (pair ∷ pairs) m n k id e =
    all_put pairs (insert m (pair_id pair) pair) (insert n (pair_id pair) pair) k id
    (put m pair id
    ∙ one_put (eq_by_cmp by_bytes id (pair_id pair)) pair (get m id) (get n id) k e
    ∙ ap (λ (o : Option Pair). option_or o k) (sym (put n pair id)))

-- what is not new is kept as it is offered
not_new : (kept offered : Pairs) (id : List ℕ) → is_new kept offered id ≡ false → get kept id ≡ option_or (get offered id) (get kept id)
unfolding is_new
not_new kept offered id same = same_kept (get kept id) (get offered id) same

-- those that are new make of what is kept what all of them make
pub all_taken : (kept : Pairs) (pairs : List Pair) (id : List ℕ)
    → get (with_objects (new_objects kept (with_objects pairs empty) pairs) kept) id ≡ option_or (get (with_objects pairs empty) id) (get kept id)
all_taken kept pairs id = by_test (is_new kept (with_objects pairs empty) id) refl where
  by_test : (b : Bool) → is_new kept (with_objects pairs empty) id ≡ b
      → get (with_objects (new_objects kept (with_objects pairs empty) pairs) kept) id ≡ option_or (get (with_objects pairs empty) id) (get kept id)
  by_test true new =
      taken_in (is_new kept (with_objects pairs empty)) pairs kept id new
      ∙ all_put pairs kept empty (get kept id) id (ap (λ (o : Option Pair). option_or o (get kept id)) (sym (get-empty by_bytes id)))
  by_test false same =
      left_out (is_new kept (with_objects pairs empty)) pairs kept id same ∙ not_new kept (with_objects pairs empty) id same
