-- Two walks at once: what is left of both after a piece of each.
use Rattle.std.proofs.Common.{◌≡◌, ℕ, ◌-◌, ◌≤◌, ◌==◌, Bool, List, [], ◌∷◌, ◌++◌, length, Some, refl, sym, ap, subst, ◌∙◌, append_assoc}
use Rattle.git_object.specs.declared.trees.TreeEntry.{TreeEntry}
use Rattle.tree_paths.specs.Readings.{Trees}
use Rattle.tree_paths.specs.Walks.{Leaf, Step, Visit, below, goes_on, judge, one_dir, opened, steps}
use Rattle.tree_paths.specs.Listings.{leaves}
use Rattle.tree_paths.specs.Pairings.{Goes, IfBoth}
use Rattle.tree_paths.specs.declared.counts.Walked.{Walked}
use Rattle.tree_paths.specs.declared.counts.Walked.TheVariants.{Broken, Counted}
use Rattle.tree_paths.specs.declared.paired_counts.PairCounts.{PairCounts}
use Rattle.tree_paths.specs.declared.paired_counts.Paired.{Paired}
use Rattle.tree_paths.specs.declared.paired_counts.Paired.TheVariants.{FromBroken, ToBroken, BothCounted}
use Rattle.tree_paths.proofs.Judging.{judge_append, judge_open, piece_of}

pub both_is : (P : PairCounts → Type 0) (w : Paired) (c : PairCounts) → IfBoth w P → w ≡ BothCounted c → P c
both_is P w c h e = subst (λ (v : Paired). IfBoth v P) e h

module _ (trees : Trees) (all_from all_to : List Step) (start : PairCounts) (es xs fs ys : List Step) (c : PairCounts) where
  pub first_breaks : (bad : List ℕ) → Goes trees all_from all_to start (es ++ xs) (fs ++ ys) c → judge trees es c.from ≡ Broken bad → judge trees all_from start.from ≡ Broken bad
  first_breaks bad goes broken =
      goes.first ∙ judge_append trees es xs c.from ∙ ap (λ (w : Walked). goes_on w (judge trees xs)) broken

  pub second_breaks : (bad : List ℕ) → Goes trees all_from all_to start (es ++ xs) (fs ++ ys) c → judge trees fs c.to ≡ Broken bad → judge trees all_to start.to ≡ Broken bad
  second_breaks bad goes broken =
      goes.second ∙ judge_append trees fs ys c.to ∙ ap (λ (w : Walked). goes_on w (judge trees ys)) broken

  pub both_go : (d : PairCounts) → Goes trees all_from all_to start (es ++ xs) (fs ++ ys) c → (judge trees es c.from ≡ Counted d.from) × (judge trees fs c.to ≡ Counted d.to)
      → Goes trees all_from all_to start xs ys d
  both_go d goes counted = record {
    first = goes.first ∙ judge_append trees es xs c.from ∙ ap (λ (w : Walked). goes_on w (judge trees xs)) counted.0;
    second = goes.second ∙ judge_append trees fs ys c.to ∙ ap (λ (w : Walked). goes_on w (judge trees ys)) counted.1;
  }

-- the first of what is left is taken off
pub goes_at : (trees : Trees) (all : List Step) (start : PairCounts) (into : List ℕ → List ℕ → List Step) (holder front : List ℕ) (rest es : List TreeEntry) (e : TreeEntry) (c : PairCounts)
    → rest ≡ e ∷ es → Goes trees all all start (below into holder front rest) (below into holder front rest) c
    → Goes trees all all start (piece_of into holder front e ++ below into holder front es) (piece_of into holder front e ++ below into holder front es) c
goes_at trees all start into holder front rest es e c at goes =
    subst (λ (fs : List TreeEntry). Goes trees all all start (below into holder front fs) (below into holder front fs) c) at goes

-- a tree that is visited by both
pub goes_open : (trees : Trees) (left : ℕ) (front id : List ℕ) (root : Bool) (es rest : List TreeEntry) (start c : PairCounts) → 1 ≤ left → root ≡ (length front == 0)
    → Some es ≡ opened left root (trees id) → rest ≡ es → c.from ≡ one_dir start.from → c.to ≡ one_dir start.to
    → Goes trees (steps trees left front id) (steps trees left front id) start (below (steps trees (left - 1)) id front rest) (below (steps trees (left - 1)) id front rest) c
goes_open trees left front id root es rest start c some is opens at first second = record {
  first = judge_open trees left front id root es start.from some is opens ∙ (λ i. judge trees (below (steps trees (left - 1)) id front (sym at i)) (sym first i));
  second = judge_open trees left front id root es start.to some is opens ∙ (λ i. judge trees (below (steps trees (left - 1)) id front (sym at i)) (sym second i));
}

-- what is still to be listed, after the paths of one entry
pub list_next : (into : List ℕ → List ℕ → List Step) (holder front : List ℕ) (rest es : List TreeEntry) (e : TreeEntry) (whole paths more : List (List ℕ))
    → whole ≡ paths ++ leaves (below into holder front rest) → rest ≡ e ∷ es → more ≡ paths ++ leaves (piece_of into holder front e)
    → whole ≡ more ++ leaves (below into holder front es)
list_next into holder front rest es e whole paths more is at added =
    is ∙ ap (λ (fs : List TreeEntry). paths ++ leaves (below into holder front fs)) at
    ∙ ap (λ (ps : List (List ℕ)). paths ++ ps) (leaves_append (piece_of into holder front e) (below into holder front es))
    ∙ sym (append_assoc paths (leaves (piece_of into holder front e)) (leaves (below into holder front es)))
    ∙ ap (λ (ps : List (List ℕ)). ps ++ leaves (below into holder front es)) (sym added)
  where
    leaves_append : (xs ys : List Step) → leaves (xs ++ ys) ≡ leaves xs ++ leaves ys
    leaves_append [] ys = refl
    leaves_append (Visit left place id ∷ xs) ys = leaves_append xs ys
    leaves_append (Leaf h path mode id ∷ xs) ys = ap (λ (ps : List (List ℕ)). path ∷ ps) (leaves_append xs ys)

pub both_by : (P : PairCounts → Type 0) (w : Paired) → ((c : PairCounts) → w ≡ BothCounted c → P c) → IfBoth w P
both_by P (FromBroken id) f = tt
both_by P (ToBroken id) f = tt
both_by P (BothCounted c) f = f c refl
