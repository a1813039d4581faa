-- Whether a file can be put does not hang on its blob: ids are of one length.
use Rattle.std.proofs.Common.{◌≡◌, ℕ, Bool, true, false, List, [], ◌∷◌, ◌++◌, length, Option, Some, None, refl, sym, ap, subst, ◌∙◌, arith, length-append}
use Rattle.std.specs.Prelude.{Ok, Err, nat_le, if◌then◌else◌}
use Rattle.std.specs.declared.cmp.Ordering.{Ordering}
use Rattle.std.specs.declared.cmp.Ordering.TheVariants.{Less, Equal, Greater}
use Rattle.octets.specs.BytesMap.{by_bytes}
use Rattle.git_object.specs.EntryParts.{entry_of}
use Rattle.git_object.specs.Ids.{IsId, zeros}
use Rattle.git_object.specs.Names.{components}
use Rattle.git_object.specs.Objects.{Pair, pair_id}
use Rattle.git_object.specs.Repository.{largest_body}
use Rattle.git_object.specs.Modes.{mode_text}
use Rattle.git_object.specs.Trees.{entries_text, entry_text, sort_key}
use Rattle.git_object.specs.declared.modes.Mode.{Mode}
use Rattle.git_object.specs.declared.modes.Mode.TheVariants.{Dir, File}
use Rattle.git_object.specs.declared.trees.TreeEntry.{TreeEntry}
use Rattle.tree_paths.specs.Lookups.{entry_named}
use Rattle.tree_paths.specs.Walks.{is_dir}
use Rattle.object_making.specs.Editing.{place, put_entry}
use Rattle.approvals.specs.Files.{NewTrees, Putting, put_below, put_dir, put_last, with_tree}
use Rattle.approvals.specs.Levels.{IsFit, put_levels}
use Rattle.approvals.specs.declared.surveys.Level.{Level}
use Rattle.approvals.proofs.Found.{id_of_pair}
use Rattle.approvals.proofs.Puts.{fits}

-- both were made, with roots whose ids are of one length, or the same is in the way of both
abbrev pub SameFate : Putting → Putting → Type 0
SameFate (Ok a) (Ok b) = length a.root ≡ length b.root
SameFate (Ok a) (Err id) = ⊥
SameFate (Err id) (Ok b) = ⊥
SameFate (Err id) (Err other) = id ≡ other

entry_long : (mode : Mode) (name a b : List ℕ) → length a ≡ length b → length (entry_text (entry_of mode name a)) ≡ length (entry_text (entry_of mode name b))
unfolding entry_text
entry_long mode name a b same =
    let left = length-append (mode_text mode) (32 ∷ (name ++ 0 ∷ a)) in
    let right = length-append (mode_text mode) (32 ∷ (name ++ 0 ∷ b)) in
    let left_end = length-append name (0 ∷ a) in
    let right_end = length-append name (0 ∷ b) in
    omega (arith, left, right, left_end, right_end, same)

module _ (mode : Mode) (name a b : List ℕ) (same : length a ≡ length b) where
  placed_long : (o : Ordering) (first : TreeEntry) (rest after other : List TreeEntry) → length (entries_text after) ≡ length (entries_text other)
      → length (entries_text (place o (entry_of mode name a) first rest after)) ≡ length (entries_text (place o (entry_of mode name b) first rest other))
  placed_long Less first rest after other more =
      let left = length-append (entry_text (entry_of mode name a)) (entries_text (first ∷ rest)) in
      let right = length-append (entry_text (entry_of mode name b)) (entries_text (first ∷ rest)) in
      omega (arith, left, right, entry_long mode name a b same)
  placed_long Equal first rest after other more =
      let left = length-append (entry_text (entry_of mode name a)) (entries_text rest) in
      let right = length-append (entry_text (entry_of mode name b)) (entries_text rest) in
      omega (arith, left, right, entry_long mode name a b same)
  placed_long Greater first rest after other more =
      let left = length-append (entry_text first) (entries_text after) in
      let right = length-append (entry_text first) (entries_text other) in
      omega (arith, left, right, more)

  put_long : (entries : List TreeEntry) → length (entries_text (put_entry (entry_of mode name a) entries)) ≡ length (entries_text (put_entry (entry_of mode name b) entries))
  put_long [] =
      let left = length-append (entry_text (entry_of mode name a)) [] in
      let right = length-append (entry_text (entry_of mode name b)) [] in
      omega (arith, left, right, entry_long mode name a b same)
  put_long (first ∷ rest) = placed_long (by_bytes (sort_key (entry_of mode name a)) (sort_key first)) first rest (put_entry (entry_of mode name a) rest) (put_entry (entry_of mode name b) rest) (put_long rest)

ids_long : (x y : Pair) → length (pair_id x) ≡ length (pair_id y)
ids_long x y = (id_of_pair x).length ∙ sym (id_of_pair y).length

sized : (b : Bool) (old : List ℕ) (below more : List Pair) (x y : Pair) → SameFate (fits b old below x) (fits b old more y)
sized true old below more x y = ids_long x y
sized false old below more x y = refl

tree_fate : (old : Option (List ℕ)) (below more : List Pair) (x y : Pair) → length x.body ≡ length y.body → SameFate (with_tree old below x) (with_tree old more y)
tree_fate None below more x y same = ids_long x y
tree_fate (Some old) below more x y same =
    subst (λ (n : ℕ). SameFate (with_tree (Some old) below x) (fits (nat_le n largest_body) old more y)) same (sized (nat_le (length x.body) largest_body) old below more x y)

chosen : (b : Bool) (id : List ℕ) (p q : Putting) → SameFate p q → SameFate (if b then Err id else p) (if b then Err id else q)
chosen true id p q same = refl
chosen false id p q same = same

module _ (a b : List ℕ) (same : length a ≡ length b) where
  last_fate : (old : Option (List ℕ)) (name : List ℕ) (entries : List TreeEntry) (found : Option TreeEntry) → SameFate (put_last old name a entries found) (put_last old name b entries found)
  last_fate old name entries None = tree_fate old [] [] _ _ (put_long File name a b same entries)
  last_fate old name entries (Some found) = chosen (is_dir found.mode) found.id _ _ (tree_fate old [] [] _ _ (put_long File name a b same entries))

dir_fate : (old : Option (List ℕ)) (name : List ℕ) (entries : List TreeEntry) (p q : Putting) → SameFate p q → SameFate (put_dir old name entries p) (put_dir old name entries q)
dir_fate old name entries (Ok p) (Ok q) same = tree_fate old p.objects q.objects _ _ (put_long Dir name p.root q.root same entries)
dir_fate old name entries (Ok p) (Err id) same = absurd same
dir_fate old name entries (Err id) (Ok q) same = absurd same
dir_fate old name entries (Err id) (Err other) same = same

else_chosen : (b : Bool) (id : List ℕ) (p q : Putting) → SameFate p q → SameFate (if b then p else Err id) (if b then q else Err id)
else_chosen true id p q same = same
else_chosen false id p q same = refl

below_fate : (p q : Putting) (found : Option TreeEntry) → SameFate p q → SameFate (put_below (λ dir. p) found) (put_below (λ dir. q) found)
below_fate p q None same = same
below_fate p q (Some found) same = else_chosen (is_dir found.mode) found.id p q same

pub fate : (a b : List ℕ) → length a ≡ length b → (names : List (List ℕ)) (levels : List Level) → SameFate (put_levels a names levels) (put_levels b names levels)
fate a b same [] levels = same
fate a b same (name ∷ names) [] = same
fate a b same (name ∷ []) (level ∷ levels) = last_fate a b same level.old name level.entries (entry_named name level.entries)
fate a b same (name ∷ next ∷ names) (level ∷ levels) =
    dir_fate level.old name level.entries _ _ (below_fate _ _ (entry_named name level.entries) (fate a b same (next ∷ names) levels))

pub refused_too : (p q : Putting) (id : List ℕ) → SameFate p q → p ≡ Err id → q ≡ Err id
refused_too (Ok p) q id same is = cc
refused_too (Err other) (Ok q) id same is = absurd same
refused_too (Err other) (Err next) id same is = ap Err (sym same) ∙ is

pub made_too : (p q : Putting) (made : NewTrees) (id : List ℕ) → SameFate p q → p ≡ Ok made → q ≡ Err id → ⊥
made_too (Ok p) (Ok q) made id same is not = cc
made_too (Ok p) (Err other) made id same is not = same
made_too (Err other) q made id same is not = cc

-- where the trial was made, nothing is in the way of an id
pub never_in_way : (path : List ℕ) (levels : List Level) → IsFit path levels → (blob : List ℕ) → IsId blob → (path' : List ℕ) → path' ≡ path → (levels' : List Level) → levels' ≡ levels
    → (id : List ℕ) → put_levels blob (components path') levels' ≡ Err id → ⊥
never_in_way path levels fit blob is path' same levels' also id refused =
    made_too (put_levels zeros (components path) levels) (put_levels blob (components path) levels) fit.trial id (fate zeros blob (sym is.length) (components path) levels) fit.fits
    ((λ i. put_levels blob (components (sym same i)) (sym also i)) ∙ refused)

-- what is in the way of the trial is in the way of each id
pub in_way_too : (names : List (List ℕ)) (levels : List Level) (id blob : List ℕ) → put_levels zeros names levels ≡ Err id → length blob ≡ 32 → put_levels blob names levels ≡ Err id
in_way_too names levels id blob refused long = refused_too (put_levels zeros names levels) (put_levels blob names levels) id (fate zeros blob (sym long) names levels) refused
