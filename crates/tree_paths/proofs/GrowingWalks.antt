-- A walk that counts is the same walk where there are more trees.
use Rattle.std.proofs.Common.{◌≡◌, ℕ, suc, zero, ◌==◌, ◌++◌, Bool, true, false, List, [], ◌∷◌, length, Option, Some, None, refl, sym, ap, ◌∙◌}
use Rattle.git_object.specs.declared.trees.TreeEntry.{TreeEntry}
use Rattle.tree_paths.specs.Adding.{Adds, plus}
use Rattle.tree_paths.specs.Readings.{Trees}
use Rattle.tree_paths.specs.Walks.{Step, Visit, below, entry_steps, goes_on, is_dir, is_open, judge, listed, place_of, steps, take_step, visit}
use Rattle.tree_paths.specs.declared.counts.Counts.{Counts}
use Rattle.tree_paths.specs.declared.counts.Walked.{Walked}
use Rattle.tree_paths.specs.declared.counts.Walked.TheVariants.{Broken, Counted}
use Rattle.tree_paths.proofs.Judging.{judge_append, steps_suc, steps_zero}
use Rattle.tree_paths.specs.Growing.{MoreTrees}

module _ (few more : Trees) (grown : MoreTrees few more) where
  -- the steps are the same, and count the same where there are more trees
  pub record SameWalk (xs ys : List Step) (c d : Counts) : Type 0 where
    pub steps_are : ys ≡ xs
    pub counts : judge more xs c ≡ Counted d

  -- what counts as a whole counts in both parts
  record Parts (xs ys : List Step) (c d : Counts) : Type 0 where
    between : Counts
    first : judge few xs c ≡ Counted between
    rest : judge few ys between ≡ Counted d

  parts : (xs ys : List Step) (c d : Counts) → judge few (xs ++ ys) c ≡ Counted d → Parts xs ys c d
  parts xs ys c d e = by_first (judge few xs c) refl (sym (judge_append few xs ys c) ∙ e) where
    by_first : (w : Walked) → judge few xs c ≡ w → goes_on w (judge few ys) ≡ Counted d → Parts xs ys c d
    by_first (Broken id) is e = let bad : Broken id ≡ Counted d = e in cc
    by_first (Counted m) is e = record { between = m; first = is; rest = e }

  joined : (xs ys : List Step) (c m d : Counts) → judge more xs c ≡ Counted m → judge more ys m ≡ Counted d → judge more (xs ++ ys) c ≡ Counted d
  joined xs ys c m d first rest = judge_append more xs ys c ∙ ap (λ (w : Walked). goes_on w (judge more ys)) first ∙ rest

  -- each tree at a level, as a walk that counts
  abbrev AreSame : ℕ → Type 0
  AreSame n = (front id : List ℕ) (c d : Counts) → judge few (steps few n front id) c ≡ Counted d → SameWalk (steps few n front id) (steps more n front id) c d

  entry_same : (n : ℕ) → AreSame n → (holder front : List ℕ) (entry : TreeEntry) (dir : Bool) (c d : Counts)
      → judge few (entry_steps (steps few n) holder front entry dir) c ≡ Counted d
      → SameWalk (entry_steps (steps few n) holder front entry dir) (entry_steps (steps more n) holder front entry dir) c d
  entry_same n into holder front entry true c d e = into (place_of front entry) entry.id c d e
  entry_same n into holder front entry false c d e = record { steps_are = refl; counts = e }

  below_same : (n : ℕ) → AreSame n → (holder front : List ℕ) (es : List TreeEntry) (c d : Counts) → judge few (below (steps few n) holder front es) c ≡ Counted d
      → SameWalk (below (steps few n) holder front es) (below (steps more n) holder front es) c d
  below_same n into holder front [] c d e = record { steps_are = refl; counts = e }
  below_same n into holder front (entry ∷ es) c d e =
      let both = parts (entry_steps (steps few n) holder front entry (is_dir entry.mode)) (below (steps few n) holder front es) c d e in
      let first = entry_same n into holder front entry (is_dir entry.mode) c both.between both.first in
      let rest = below_same n into holder front es both.between d both.rest in
      record {
        steps_are = λ i. first.steps_are i ++ rest.steps_are i;
        counts = joined (entry_steps (steps few n) holder front entry (is_dir entry.mode)) (below (steps few n) holder front es) c both.between d first.counts rest.counts;
      }

  -- a visit that counts finds a tree, and goes on with what is below it
  record Visited (left : ℕ) (front id : List ℕ) (rest : List Step) (c d : Counts) : Type 0 where
    found : List TreeEntry
    there : few id ≡ Some found
    next : Counts
    first : take_step few c (Visit left front id) ≡ Counted next
    after : judge few rest next ≡ Counted d

  tree_there : (left : ℕ) (front id : List ℕ) (c m : Counts) → take_step few c (Visit left front id) ≡ Counted m → (es : List TreeEntry) × (few id ≡ Some es)
  tree_there left front id c m e = by_tree (few id) refl e where
    by_tree : (t : Option (List TreeEntry)) → few id ≡ t → visit id (is_open left (length front == 0) t) c ≡ Counted m → (es : List TreeEntry) × (few id ≡ Some es)
    by_tree None is e = let bad : Broken id ≡ Counted m = e in cc
    by_tree (Some es) is e = (es, is)

  visited : (left : ℕ) (front id : List ℕ) (rest : List Step) (c d : Counts) → judge few (Visit left front id ∷ rest) c ≡ Counted d → Visited left front id rest c d
  visited left front id rest c d e = by_step (take_step few c (Visit left front id)) refl e where
    by_step : (w : Walked) → take_step few c (Visit left front id) ≡ w → goes_on w (judge few rest) ≡ Counted d → Visited left front id rest c d
    by_step (Broken bad) is e = let no_way : Broken bad ≡ Counted d = e in cc
    by_step (Counted m) is e =
        let tree = tree_there left front id c m is in
        record { found = tree.0; there = tree.1; next = m; first = is; after = e }

  -- where no level is left, no visit counts
  no_level : (front id : List ℕ) (c d : Counts) (P : Type 0) → judge few (Visit 0 front id ∷ []) c ≡ Counted d → P
  no_level front id c d P e = by_tree (few id) e where
    by_tree : (t : Option (List TreeEntry)) → goes_on (visit id (is_open 0 (length front == 0) t) c) (judge few []) ≡ Counted d → P
    by_tree None e = let bad : Broken id ≡ Counted d = e in cc
    by_tree (Some es) e = let bad : Broken id ≡ Counted d = e in cc

  visit_same : (n : ℕ) → AreSame n → (front id : List ℕ) (c d : Counts) → Visited (suc n) front id (below (steps few n) id front (listed (few id))) c d
      → SameWalk (steps few (suc n) front id) (steps more (suc n) front id) c d
  visit_same n into front id c d v =
      let now : judge few (below (steps few n) id front v.found) v.next ≡ Counted d =
      ap (λ (t : Option (List TreeEntry)). judge few (below (steps few n) id front (listed t)) v.next) (sym v.there) ∙ v.after in
      let under = below_same n into id front v.found v.next d now in
      let same_step : take_step more c (Visit (suc n) front id) ≡ Counted v.next =
      ap (λ (t : Option (List TreeEntry)). visit id (is_open (suc n) (length front == 0) t) c) (grown id v.found v.there ∙ sym v.there) ∙ v.first in
      let opened : steps few (suc n) front id ≡ Visit (suc n) front id ∷ below (steps few n) id front v.found =
      steps_suc few n front id ∙ ap (λ (t : Option (List TreeEntry)). Visit (suc n) front id ∷ below (steps few n) id front (listed t)) v.there in
      let opened_more : steps more (suc n) front id ≡ Visit (suc n) front id ∷ below (steps more n) id front v.found =
      steps_suc more n front id ∙ ap (λ (t : Option (List TreeEntry)). Visit (suc n) front id ∷ below (steps more n) id front (listed t)) (grown id v.found v.there) in
      record {
        steps_are = opened_more ∙ ap (λ (ss : List Step). Visit (suc n) front id ∷ ss) under.steps_are ∙ sym opened;
        counts = ap (λ (ss : List Step). judge more ss c) opened ∙ ap (λ (w : Walked). goes_on w (judge more (below (steps few n) id front v.found))) same_step ∙ under.counts;
      }

  pub steps_same : (n : ℕ) (front id : List ℕ) (c d : Counts) → judge few (steps few n front id) c ≡ Counted d → SameWalk (steps few n front id) (steps more n front id) c d
  steps_same zero front id c d e =
      no_level front id c d (SameWalk (steps few 0 front id) (steps more 0 front id) c d) (ap (λ (ss : List Step). judge few ss c) (sym (steps_zero few front id)) ∙ e)
  steps_same (suc n) front id c d e =
      visit_same n (steps_same n) front id c d
      (visited (suc n) front id (below (steps few n) id front (listed (few id))) c d (ap (λ (ss : List Step). judge few ss c) (sym (steps_suc few n front id)) ∙ e))

  pub adds_same : (n : ℕ) (front id : List ℕ) (adds : Counts) → Adds few (steps few n front id) adds → Adds more (steps more n front id) adds
  adds_same n front id adds all c paths bytes =
      let same = steps_same n front id c (plus c adds) (all c paths bytes) in
      ap (λ (ss : List Step). judge more ss c) same.steps_are ∙ same.counts
