-- Which trees are made, and that a walk may visit each of them.
use Rattle.std.proofs.Common.{◌≡◌, ◌≤◌, ◌-◌, ◌==◌, ◌&&◌, ◌||◌, ℕ, suc, zero, Bool, true, false, not, List, [], ◌∷◌, ◌++◌, length, map, Option, Some, refl, sym, ap, subst, ◌∙◌, append_assoc, arith, length-append}
use Rattle.std.specs.Prelude.{nat_le}
use Rattle.std.proofs.lemmas.Bool.Decides.{nat_tests}
use Rattle.std.specs.List.{AllByRecursion}
use Rattle.std.proofs.lemmas.List.{append-nil}
use Rattle.std.proofs.lemmas.Bool.{eq-eqb}
use Rattle.git_object.specs.declared.modes.Mode.TheVariants.{Dir}
use Rattle.git_object.specs.declared.trees.TreeEntry.{TreeEntry}
use Rattle.tree_paths.specs.Readings.{Trees}
use Rattle.tree_paths.specs.Walks.{Leaf, Step, Visit, below, entry_steps, is_dir, is_open, listed, steps}
use Rattle.tree_paths.proofs.Judging.{piece_of, steps_at}
use Rattle.object_making.specs.Listings.{StartsAt, StopsAt, entry_of}
use Rattle.object_making.specs.Made.{AreOpen, MayVisit, ids_at, ids_below, tree_ids}
use Rattle.object_making.specs.declared.listed.Listed.{Listed}
use Rattle.object_making.proofs.Putting.{all_both}

-- ---- ids

ids_suc : (trees : Trees) (n : ℕ) (id : List ℕ) → tree_ids trees (suc n) id ≡ ids_below (tree_ids trees n) (listed (trees id)) ++ id ∷ []
unfolding tree_ids
ids_suc trees n id = refl

ids_of : (trees : Trees) (left : ℕ) (id : List ℕ) (es : List TreeEntry) → 1 ≤ left → trees id ≡ Some es → tree_ids trees left id ≡ ids_below (tree_ids trees (left - 1)) es ++ id ∷ []
ids_of trees zero id es some there = absurd (omega arith)
ids_of trees (suc n) id es some there =
    ids_suc trees n id ∙ ap (λ (t : Option (List TreeEntry)). ids_below (tree_ids trees n) (listed t) ++ id ∷ []) there
    ∙ ap (λ (m : ℕ). ids_below (tree_ids trees m) es ++ id ∷ []) (let e : n ≡ suc n - 1 = omega arith in e)

ids_last : (into : List ℕ → List (List ℕ)) (es : List TreeEntry) (e : TreeEntry) → ids_below into (es ++ e ∷ []) ≡ ids_below into es ++ ids_at into e (is_dir e.mode)
ids_last into [] e = append-nil (ids_at into e (is_dir e.mode))
ids_last into (f ∷ es) e =
    ap (λ (rest : List (List ℕ)). ids_at into f (is_dir f.mode) ++ rest) (ids_last into es e)
    ∙ sym (append_assoc (ids_at into f (is_dir f.mode)) (ids_below into es) (ids_at into e (is_dir e.mode)))

-- an entry that is no directory's leads to no tree
pub ids_plain : (into : List ℕ → List (List ℕ)) (es fs : List TreeEntry) (e : TreeEntry) → fs ≡ es ++ e ∷ [] → is_dir e.mode ≡ false → ids_below into fs ≡ ids_below into es
ids_plain into es fs e added plain =
    ap (ids_below into) added ∙ ids_last into es e ∙ ap (λ (b : Bool). ids_below into es ++ ids_at into e b) plain ∙ append-nil (ids_below into es)

-- the trees of a directory come before its entry's
pub ids_put : (into : List ℕ → List (List ℕ)) (es fs : List TreeEntry) (name id : List ℕ) (before was now : List (List ℕ)) → fs ≡ es ++ entry_of Dir name id ∷ []
    → was ≡ before ++ ids_below into es → now ≡ was ++ into id → now ≡ before ++ ids_below into fs
ids_put into es fs name id before was now added stood is =
    is ∙ ap (λ (ids : List (List ℕ)). ids ++ into id) stood ∙ append_assoc before (ids_below into es) (into id)
    ∙ ap (λ (ids : List (List ℕ)). before ++ ids) (sym (ids_last into es (entry_of Dir name id)) ∙ ap (ids_below into) (sym added))

pub ids_tree : (trees : Trees) (left : ℕ) (id : List ℕ) (es : List TreeEntry) (before was now : List (List ℕ)) → 1 ≤ left → trees id ≡ Some es
    → was ≡ before ++ ids_below (tree_ids trees (left - 1)) es → now ≡ was ++ id ∷ [] → now ≡ before ++ tree_ids trees left id
ids_tree trees left id es before was now some there stood is =
    is ∙ ap (λ (ids : List (List ℕ)). ids ++ id ∷ []) stood ∙ append_assoc before (ids_below (tree_ids trees (left - 1)) es) (id ∷ [])
    ∙ ap (λ (ids : List (List ℕ)). before ++ ids) (sym (ids_of trees left id es some there))

-- ---- visits

open_last : (trees : Trees) (into : List ℕ → List ℕ → List Step) (holder front : List ℕ) (es : List TreeEntry) (e : TreeEntry) → AreOpen trees (below into holder front es) → AreOpen trees (piece_of into holder front e)
    → AreOpen trees (below into holder front (es ++ e ∷ []))
open_last trees into holder front [] e all one = subst (AreOpen trees) (sym (append-nil (piece_of into holder front e))) one
open_last trees into holder front (f ∷ es) e all one =
    all_both (MayVisit trees) (piece_of into holder front f) (below into holder front (es ++ e ∷ [])) (front_of (piece_of into holder front f) (below into holder front es) all)
    (open_last trees into holder front es e (back_of (piece_of into holder front f) (below into holder front es) all) one)
  where
    front_of : (xs ys : List Step) → AreOpen trees (xs ++ ys) → AreOpen trees xs
    front_of [] ys both = tt
    front_of (x ∷ xs) ys both = (both.0, front_of xs ys both.1)

    back_of : (xs ys : List Step) → AreOpen trees (xs ++ ys) → AreOpen trees ys
    back_of [] ys both = both
    back_of (x ∷ xs) ys both = back_of xs ys both.1

pub open_plain : (trees : Trees) (into : List ℕ → List ℕ → List Step) (holder front : List ℕ) (es fs : List TreeEntry) (e : TreeEntry) → fs ≡ es ++ e ∷ [] → is_dir e.mode ≡ false
    → AreOpen trees (below into holder front es) → AreOpen trees (below into holder front fs)
open_plain trees into holder front es fs e added plain all =
    subst (λ (entries : List TreeEntry). AreOpen trees (below into holder front entries)) (sym added)
    (open_last trees into holder front es e all (subst (λ (b : Bool). AreOpen trees (entry_steps into holder front e b)) (sym plain) (tt, tt)))

pub open_put : (trees : Trees) (into : List ℕ → List ℕ → List Step) (holder front place name id : List ℕ) (es fs : List TreeEntry) → fs ≡ es ++ entry_of Dir name id ∷ [] → place ≡ front ++ (name ++ 47 ∷ [])
    → AreOpen trees (into place id) → AreOpen trees (below into holder front es) → AreOpen trees (below into holder front fs)
open_put trees into holder front place name id es fs added at inner all =
    subst (λ (entries : List TreeEntry). AreOpen trees (below into holder front entries)) (sym added)
    (open_last trees into holder front es (entry_of Dir name id) all (subst (λ (p : List ℕ). AreOpen trees (into p id)) at inner))

opens : (left len count : ℕ) → 1 ≤ left → (count ≡ 0 → len ≡ 0) → (nat_le 1 left && (len == 0 || not (count == 0))) ≡ true
opens left len count some root = grind (arith, nat_tests)

pub open_tree : (trees : Trees) (left : ℕ) (front id : List ℕ) (es : List TreeEntry) → 1 ≤ left → trees id ≡ Some es → (length es ≡ 0 → length front ≡ 0)
    → AreOpen trees (below (steps trees (left - 1)) id front es) → AreOpen trees (steps trees left front id)
open_tree trees left front id es some there root all =
    subst (AreOpen trees) (sym (steps_at trees left front id some)) (
      ap (is_open left (length front == 0)) there ∙ opens left (length front) (length es) some root,
      subst (λ (t : Option (List TreeEntry)). AreOpen trees (below (steps trees (left - 1)) id front (listed t))) (sym there) all,
    )

-- ---- entries

pub put_full : (es fs : List TreeEntry) (e : TreeEntry) → fs ≡ es ++ e ∷ [] → 1 ≤ length fs
put_full es fs e added = omega (arith, ap length added, length-append es (e ∷ []))

pub put_some : (es fs : List TreeEntry) (e : TreeEntry) → fs ≡ es ++ e ∷ [] → length fs ≡ 0 → ⊥
put_some es fs e added none = let full = put_full es fs e added in omega (arith, full, none)

pub no_entries : (trees : Trees) (left : ℕ) (before : List (List ℕ)) (es : List TreeEntry) → es ≡ [] → before ≡ before ++ ids_below (tree_ids trees left) es
no_entries trees left before es none = sym (append-nil before) ∙ ap (λ (entries : List TreeEntry). before ++ ids_below (tree_ids trees left) entries) (sym none)

-- ---- runs

-- the paths that begin with a place are some where the first of all does
pub run_some : (place : List ℕ) (listing run after : List Listed) → StartsAt place listing → listing ≡ run ++ after → StopsAt place after → length run ≡ 0 → ⊥
run_some place listing (r ∷ run) after starts whole stops none = absurd (omega arith)
run_some place listing [] [] starts whole stops none = subst (StartsAt place) whole starts
run_some place listing [] (a ∷ after) starts whole stops none = stops (subst (StartsAt place) whole starts)
