-- Each repository has its readings.
use Rattle.std.proofs.Common.{◌≡◌, ℕ, ◌≤◌, List, Option, Some, None, refl, sym, ap, subst, ◌∙◌, ◌⊎◌, inl, inr, length}
use Rattle.std.specs.FinMap.{get}
use Rattle.std.proofs.lemmas.Option.{same_Some}
use Rattle.git_object.specs.Commits.{IsCommitText}
use Rattle.git_object.specs.Objects.{Pair, pair_id}
use Rattle.git_object.specs.Repository.{HasObject, Repository, largest_body, object_at}
use Rattle.git_object.specs.Tags.{IsTagText}
use Rattle.git_object.specs.Trees.{IsTreeText}
use Rattle.git_object.specs.declared.kinds.Kind.{Kind}
use Rattle.git_object.specs.declared.kinds.Kind.TheVariants as kind
use Rattle.git_object.specs.declared.trees.TreeEntry.{TreeEntry}
use Rattle.git_object.proofs.Decisions.{is_text, is_within}
use Rattle.git_object.proofs.ObjectAt.{object_none, object_there}
use Rattle.git_object.proofs.Totality.{commit_decided, tag_decided, tree_decided}
use Rattle.git_object.proofs.CommitLemmas as commits
use Rattle.git_object.proofs.TagLemmas as tags
use Rattle.git_object.proofs.TreeLemmas as trees
use Rattle.tree_paths.specs.Readings.{AreReadings, IsCommitOf, IsHeadAt, IsTagOf, IsTreeAt, Readings}
use Rattle.tree_paths.specs.Repositories.{commit_read, head_in, head_of_kind, readings_of, tag_read, tree_in, tree_of_kind, tree_read}
use Rattle.tree_paths.specs.declared.heads.TargetHead.TheVariants.{Other}
use Rattle.tree_paths.proofs.ObjectsRead.{same_pair}

module _ (r : Repository) (id : List ℕ) where
  -- an id has an object, or none
  object_decided : ((pair : Pair) × HasObject r id pair) ⊎ ((pair : Pair) → HasObject r id pair → ⊥)
  object_decided = by_found (get r.objects id) refl
    where
      kept_is : (found : Option Pair) → get r.objects id ≡ found → (pair : Pair) → HasObject r id pair → found ≡ Some pair
      kept_is found is pair has = sym is ∙ has.kept

      by_found : (found : Option Pair) → get r.objects id ≡ found → ((pair : Pair) × HasObject r id pair) ⊎ ((pair : Pair) → HasObject r id pair → ⊥)
      by_found None is = inr (λ pair has. let e = kept_is None is pair has in cc)
      by_found (Some p) is = elim (is_text (pair_id p) id) [
        | inl own ↦ elim (is_within (length p.body) largest_body) [
          | inl small ↦ inl (p, record { kept = is; is = record { own = own; small = small } })
          | inr large ↦ inr (λ pair has. large (subst (λ (q : Pair). length q.body ≤ largest_body) (sym (same_Some p pair (kept_is (Some p) is pair has))) has.is.small))
        ]
        | inr other ↦ inr (λ pair has. other (ap pair_id (same_Some p pair (kept_is (Some p) is pair has)) ∙ has.is.own))
      ]

  -- ---- trees

  other_tree : (pair : Pair) → HasObject r id pair → (pair.kind ≡ kind.Tree → ⊥) → IsTreeAt r id None
  other_tree pair has other = λ entries is. other (ap (λ (p : Pair). p.kind) (same_pair r id pair is.pair has is.kept) ∙ is.kind_is)

  tree_by_body : (pair : Pair) → HasObject r id pair → pair.kind ≡ kind.Tree → IsTreeAt r id (tree_read pair.body (tree_decided pair.body))
  tree_by_body pair has is = elim (tree_decided pair.body) as (λ d. IsTreeAt r id (tree_read pair.body d)) [
    | inl found ↦ record { pair = pair; kept = has; kind_is = is; text = found.1 }
    | inr bad ↦
        λ entries at. trees.apart (record { entries = entries }) pair.body bad.0
        (subst (λ (p : Pair). IsTreeText (record { entries = entries }) p.body) (sym (same_pair r id pair at.pair has at.kept)) at.text) bad.1
  ]

  tree_by_kind : (pair : Pair) → HasObject r id pair → (k : Kind) → pair.kind ≡ k → IsTreeAt r id (tree_of_kind k pair.body)
  tree_by_kind pair has kind.Tree is = tree_by_body pair has is
  tree_by_kind pair has kind.Blob is = other_tree pair has (λ e. let f = sym is ∙ e in cc)
  tree_by_kind pair has kind.Commit is = other_tree pair has (λ e. let f = sym is ∙ e in cc)
  tree_by_kind pair has kind.Tag is = other_tree pair has (λ e. let f = sym is ∙ e in cc)

  tree_at : IsTreeAt r id (tree_in (object_at r id))
  tree_at = elim object_decided [
    | inl found ↦ subst (λ (o : Option Pair). IsTreeAt r id (tree_in o)) (sym (object_there r id found.0 found.1)) (tree_by_kind found.0 found.1 found.0.kind refl)
    | inr none ↦ subst (λ (o : Option Pair). IsTreeAt r id (tree_in o)) (sym (object_none r id none)) (λ entries is. none is.pair is.kept)
  ]

  -- ---- commits and tags

  no_commit : (pair : Pair) → HasObject r id pair → (pair.kind ≡ kind.Commit → ⊥) → (tree : List ℕ) → IsCommitOf r id tree → ⊥
  no_commit pair has other tree is = other (ap (λ (p : Pair). p.kind) (same_pair r id pair is.pair has is.kept) ∙ is.kind_is)

  no_tag : (pair : Pair) → HasObject r id pair → (pair.kind ≡ kind.Tag → ⊥) → (object : List ℕ) (names : Kind) → IsTagOf r id object names → ⊥
  no_tag pair has other object names is = other (ap (λ (p : Pair). p.kind) (same_pair r id pair is.pair has is.kept) ∙ is.kind_is)

  commit_by_body : (pair : Pair) → HasObject r id pair → pair.kind ≡ kind.Commit → IsHeadAt r id (commit_read pair.body (commit_decided pair.body))
  commit_by_body pair has is = elim (commit_decided pair.body) as (λ d. IsHeadAt r id (commit_read pair.body d)) [
    | inl found ↦ record { pair = pair; kept = has; kind_is = is; commit = found.0; text = found.1; tree_is = refl }
    | inr bad ↦ record {
      no_commit = λ tree at. commits.apart at.commit pair.body bad.0 (subst (λ (p : Pair). IsCommitText at.commit p.body) (sym (same_pair r id pair at.pair has at.kept)) at.text) bad.1;
      no_tag = no_tag pair has (λ e. let f = sym is ∙ e in cc);
    }
  ]

  tag_by_body : (pair : Pair) → HasObject r id pair → pair.kind ≡ kind.Tag → IsHeadAt r id (tag_read pair.body (tag_decided pair.body))
  tag_by_body pair has is = elim (tag_decided pair.body) as (λ d. IsHeadAt r id (tag_read pair.body d)) [
    | inl found ↦ record { pair = pair; kept = has; kind_is = is; tag = found.0; text = found.1; object_is = refl; names_is = refl }
    | inr bad ↦ record {
      no_commit = no_commit pair has (λ e. let f = sym is ∙ e in cc);
      no_tag = λ object names at. tags.apart at.tag pair.body bad.0 (subst (λ (p : Pair). IsTagText at.tag p.body) (sym (same_pair r id pair at.pair has at.kept)) at.text) bad.1;
    }
  ]

  no_head : (pair : Pair) → HasObject r id pair → (pair.kind ≡ kind.Commit → ⊥) → (pair.kind ≡ kind.Tag → ⊥) → IsHeadAt r id Other
  no_head pair has a b = record { no_commit = no_commit pair has a; no_tag = no_tag pair has b }

  head_by_kind : (pair : Pair) → HasObject r id pair → (k : Kind) → pair.kind ≡ k → IsHeadAt r id (head_of_kind k pair.body)
  head_by_kind pair has kind.Commit is = commit_by_body pair has is
  head_by_kind pair has kind.Tag is = tag_by_body pair has is
  head_by_kind pair has kind.Blob is = no_head pair has (λ e. let f = sym is ∙ e in cc) (λ e. let f = sym is ∙ e in cc)
  head_by_kind pair has kind.Tree is = no_head pair has (λ e. let f = sym is ∙ e in cc) (λ e. let f = sym is ∙ e in cc)

  head_at : IsHeadAt r id (head_in (object_at r id))
  head_at = elim object_decided [
    | inl found ↦ subst (λ (o : Option Pair). IsHeadAt r id (head_in o)) (sym (object_there r id found.0 found.1)) (head_by_kind found.0 found.1 found.0.kind refl)
    | inr none ↦
        subst (λ (o : Option Pair). IsHeadAt r id (head_in o)) (sym (object_none r id none))
        (let other : IsHeadAt r id Other = record { no_commit = λ tree is. none is.pair is.kept; no_tag = λ object names is. none is.pair is.kept } in other)
  ]

pub are_readings : (r : Repository) → AreReadings r (readings_of r)
unfolding readings_of
are_readings r = record { trees = tree_at r; heads = head_at r }

pub readings_are : (r : Repository) → (readings : Readings) × AreReadings r readings
readings_are r = (readings_of r, are_readings r)

-- a repository has one reading of each id
pub one_reading : (r : Repository) (a b : Readings) → AreReadings r a → AreReadings r b → (id : List ℕ) → (a.trees id ≡ b.trees id)
one_reading r a b are others id = trees_one (a.trees id) (b.trees id) (are.trees id) (others.trees id)
  where
    trees_one : (x y : Option (List TreeEntry)) → IsTreeAt r id x → IsTreeAt r id y → x ≡ y
    trees_one None None p q = refl
    trees_one None (Some f) p q = absurd (p f q)
    trees_one (Some e) None p q = absurd (q e p)
    trees_one (Some e) (Some f) p q =
        let same = trees.one_value (record { entries = e }) (record { entries = f }) p.pair.body p.text
        (subst (λ (x : Pair). IsTreeText (record { entries = f }) x.body) (sym (same_pair r id p.pair q.pair p.kept q.kept)) q.text) in
        λ i. Some ((same i).entries)
