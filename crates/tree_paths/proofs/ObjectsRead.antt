-- One reading at an id, and readings that were told before a call.
use Rattle.std.proofs.Common.{◌≡◌, ℕ, List, Option, Some, None, refl, sym, ap, subst, ◌∙◌}
use Rattle.std.specs.Prelude.{IfNone, IfSome}
use Rattle.std.proofs.lemmas.Option.{same_Some}
use Rattle.octets.specs.Content.{Stays}
use Rattle.git_object.specs.Objects.{Pair}
use Rattle.git_object.specs.Repository.{HasObject, Repository}
use Rattle.git_object.specs.Trees.{AreWellFormed, IsTreeFault, IsTreeText}
use Rattle.git_object.specs.Commits.{IsCommitFault, IsCommitText}
use Rattle.git_object.specs.Tags.{IsTagFault, IsTagText}
use Rattle.git_object.specs.declared.commits.Commit.{Commit}
use Rattle.git_object.specs.declared.kinds.Kind.{Kind}
use Rattle.git_object.specs.declared.kinds.Kind.TheVariants as kind
use Rattle.git_object.specs.declared.tags.Tag.{Tag}
use Rattle.git_object.specs.declared.trees.TreeEntry.{TreeEntry}
use Rattle.git_object.proofs.CommitLemmas as commits
use Rattle.git_object.proofs.TagLemmas as tags
use Rattle.git_object.proofs.TreeLemmas as trees
use Rattle.tree_paths.specs.Readings.{IsCommitOf, IsHeadAt, IsOther, IsTagOf, IsTreeAt, Readings, Told}
use Rattle.tree_paths.specs.Walks.{listed}
use Rattle.tree_paths.specs.declared.heads.TargetHead.{TargetHead}
use Rattle.tree_paths.specs.declared.heads.TargetHead.TheVariants.{Next, Other, Root}

-- what is read now of what is held was read of it before
pub kept_told : {before after : Option Repository} (readings : Readings) → Stays before after → Told after readings → Told before readings
kept_told readings stays now = record { repository = now.repository; told = stays now.repository now.told; are = now.are }

pub same_pair : (r : Repository) (id : List ℕ) (p q : Pair) → HasObject r id p → HasObject r id q → p ≡ q
same_pair r id p q has kept = same_Some p q (sym has.kept ∙ kept.kept)

-- ---- trees

module _ (r : Repository) (id : List ℕ) where
  pub tree_missing : (tree : Option (List TreeEntry)) → ((pair : Pair) → HasObject r id pair → ⊥) → IsTreeAt r id tree → None ≡ tree
  tree_missing None none at = refl
  tree_missing (Some entries) none at = absurd (none at.pair at.kept)

  pub tree_other : (pair : Pair) (tree : Option (List TreeEntry)) → HasObject r id pair → (pair.kind ≡ kind.Tree → ⊥) → IsTreeAt r id tree → None ≡ tree
  tree_other pair None has other at = refl
  tree_other pair (Some entries) has other at =
      absurd (other (ap (λ (p : Pair). p.kind) (same_pair r id pair at.pair has at.kept) ∙ at.kind_is))

  pub tree_bad : (pair : Pair) (place : ℕ) (tree : Option (List TreeEntry)) → HasObject r id pair → IsTreeFault pair.body place → IsTreeAt r id tree → None ≡ tree
  tree_bad pair place None has bad at = refl
  tree_bad pair place (Some entries) has bad at =
      absurd (trees.apart (record { entries = entries }) pair.body place
      (subst (λ (p : Pair). IsTreeText (record { entries = entries }) p.body) (sym (same_pair r id pair at.pair has at.kept)) at.text) bad)

  pub tree_there : (pair : Pair) (entries : List TreeEntry) (tree : Option (List TreeEntry)) → HasObject r id pair → pair.kind ≡ kind.Tree
      → IsTreeText (record { entries = entries }) pair.body → IsTreeAt r id tree → Some entries ≡ tree
  tree_there pair entries None has is text at = absurd (at entries (record { pair = pair; kept = has; kind_is = is; text = text }))
  tree_there pair entries (Some others) has is text at =
      let same = trees.one_value (record { entries = entries }) (record { entries = others }) pair.body text
      (subst (λ (p : Pair). IsTreeText (record { entries = others }) p.body) (sym (same_pair r id pair at.pair has at.kept)) at.text) in
      λ i. Some ((same i).entries)

  -- ---- commits and tags

  no_commit_other : (pair : Pair) → HasObject r id pair → (pair.kind ≡ kind.Commit → ⊥) → (tree : List ℕ) → IsCommitOf r id tree → ⊥
  no_commit_other pair has other tree at = other (ap (λ (p : Pair). p.kind) (same_pair r id pair at.pair has at.kept) ∙ at.kind_is)

  no_tag_other : (pair : Pair) → HasObject r id pair → (pair.kind ≡ kind.Tag → ⊥) → (object : List ℕ) (names : Kind) → IsTagOf r id object names → ⊥
  no_tag_other pair has other object names at = other (ap (λ (p : Pair). p.kind) (same_pair r id pair at.pair has at.kept) ∙ at.kind_is)

  no_commit_bad : (pair : Pair) (place : ℕ) → HasObject r id pair → IsCommitFault pair.body place → (tree : List ℕ) → IsCommitOf r id tree → ⊥
  no_commit_bad pair place has bad tree at =
      commits.apart at.commit pair.body place (subst (λ (p : Pair). IsCommitText at.commit p.body) (sym (same_pair r id pair at.pair has at.kept)) at.text) bad

  no_tag_bad : (pair : Pair) (place : ℕ) → HasObject r id pair → IsTagFault pair.body place → (object : List ℕ) (names : Kind) → IsTagOf r id object names → ⊥
  no_tag_bad pair place has bad object names at =
      tags.apart at.tag pair.body place (subst (λ (p : Pair). IsTagText at.tag p.body) (sym (same_pair r id pair at.pair has at.kept)) at.text) bad

  -- where neither a commit nor a tag is there, nothing else is read
  no_head : (head : TargetHead) → IsOther r id → IsHeadAt r id head → Other ≡ head
  no_head Other other at = refl
  no_head (Root tree) other at = absurd (other.no_commit tree at)
  no_head (Next object names) other at = absurd (other.no_tag object names at)

  pub head_missing : (head : TargetHead) → ((pair : Pair) → HasObject r id pair → ⊥) → IsHeadAt r id head → Other ≡ head
  head_missing head none at =
      no_head head (record { no_commit = λ tree is. none is.pair is.kept; no_tag = λ object names is. none is.pair is.kept }) at

  pub head_other : (pair : Pair) (head : TargetHead) → HasObject r id pair → (pair.kind ≡ kind.Commit → ⊥) → (pair.kind ≡ kind.Tag → ⊥) → IsHeadAt r id head → Other ≡ head
  head_other pair head has a b at =
      no_head head (record { no_commit = no_commit_other pair has a; no_tag = no_tag_other pair has b }) at

  pub commit_bad : (pair : Pair) (place : ℕ) (head : TargetHead) → HasObject r id pair → pair.kind ≡ kind.Commit → IsCommitFault pair.body place → IsHeadAt r id head → Other ≡ head
  commit_bad pair place head has is bad at =
      no_head head (record { no_commit = no_commit_bad pair place has bad; no_tag = no_tag_other pair has (λ e. let f = sym is ∙ e in cc) }) at

  pub tag_bad : (pair : Pair) (place : ℕ) (head : TargetHead) → HasObject r id pair → pair.kind ≡ kind.Tag → IsTagFault pair.body place → IsHeadAt r id head → Other ≡ head
  tag_bad pair place head has is bad at =
      no_head head (record { no_commit = no_commit_other pair has (λ e. let f = sym is ∙ e in cc); no_tag = no_tag_bad pair place has bad }) at

  pub commit_there : (pair : Pair) (commit : Commit) (head : TargetHead) → HasObject r id pair → pair.kind ≡ kind.Commit → IsCommitText commit pair.body → IsHeadAt r id head → Root commit.tree ≡ head
  commit_there pair commit Other has is text at =
      absurd (at.no_commit commit.tree (record { pair = pair; kept = has; kind_is = is; commit = commit; text = text; tree_is = refl }))
  commit_there pair commit (Root tree) has is text at =
      let same = commits.one_value commit at.commit pair.body text
      (subst (λ (p : Pair). IsCommitText at.commit p.body) (sym (same_pair r id pair at.pair has at.kept)) at.text) in
      ap Root (ap (λ (c : Commit). c.tree) same ∙ at.tree_is)
  commit_there pair commit (Next object names) has is text at =
      let e : kind.Commit ≡ kind.Tag = sym is ∙ ap (λ (p : Pair). p.kind) (same_pair r id pair at.pair has at.kept) ∙ at.kind_is in cc

  pub tag_there : (pair : Pair) (tag : Tag) (head : TargetHead) → HasObject r id pair → pair.kind ≡ kind.Tag → IsTagText tag pair.body → IsHeadAt r id head → Next tag.object tag.kind ≡ head
  tag_there pair tag Other has is text at =
      absurd (at.no_tag tag.object tag.kind (record { pair = pair; kept = has; kind_is = is; tag = tag; text = text; object_is = refl; names_is = refl }))
  tag_there pair tag (Root tree) has is text at =
      let e : kind.Tag ≡ kind.Commit = sym is ∙ ap (λ (p : Pair). p.kind) (same_pair r id pair at.pair has at.kept) ∙ at.kind_is in cc
  tag_there pair tag (Next object names) has is text at =
      let same = tags.one_value tag at.tag pair.body text
      (subst (λ (p : Pair). IsTagText at.tag p.body) (sym (same_pair r id pair at.pair has at.kept)) at.text) in
      λ i. Next ((ap (λ (t : Tag). t.object) same ∙ at.object_is) i) ((ap (λ (t : Tag). t.kind) same ∙ at.names_is) i)

  -- the entries of a tree that is read are well formed
  pub tree_formed : (tree : Option (List TreeEntry)) → IsTreeAt r id tree → AreWellFormed (listed tree)
  tree_formed None at = record { named = tt; ordered = tt }
  tree_formed (Some entries) at = at.text.entries_are.formed

-- what is said of an optional value, where it is known
pub some_at : {A : Type 0} (P : A → Type 0) (found : Option A) (x : A) → IfSome found P → found ≡ Some x → P x
some_at P found x h e = subst (λ (o : Option _). IfSome o P) e h

pub none_at : {A X : Type 0} (found : Option A) → IfNone found X → found ≡ None → X
none_at {X = X} found h e = subst (λ (o : Option _). IfNone o X) e h
