-- The parents of the commit at an id, by what is read there.
use Rattle.std.proofs.Common.{◌≡◌, ℕ, List, Option, Some, None, refl, sym, ap, subst, ◌∙◌, ◌⊎◌, inl, inr}
use Rattle.git_object.specs.Commits.{IsCommitFault, IsCommitText}
use Rattle.git_object.specs.Objects.{Pair}
use Rattle.git_object.specs.Repository.{HasObject, Repository, object_at}
use Rattle.git_object.specs.declared.commits.Commit.{Commit}
use Rattle.git_object.specs.declared.kinds.Kind.{Kind}
use Rattle.git_object.specs.declared.kinds.Kind.TheVariants as kind
use Rattle.git_object.proofs.CommitLemmas.{apart, one_value}
use Rattle.git_object.proofs.ObjectAt.{object_none, object_there}
use Rattle.git_object.proofs.Totality.{commit_decided}
use Rattle.keeper_api.proofs.Growing.{has_there}
use Rattle.tree_paths.proofs.ObjectsRead.{same_pair}
use Rattle.global_rules.specs.Commits.{AreParentsAt, commit_parents, parents_in, parents_of_kind, parents_read}

other_kind : (k : Kind) (body : List ℕ) → (k ≡ kind.Commit → ⊥) → parents_of_kind k body ≡ None
other_kind kind.Commit body never = absurd (never refl)
other_kind kind.Blob body never = refl
other_kind kind.Tree body never = refl
other_kind kind.Tag body never = refl

refused : (body : List ℕ) (place : ℕ) → IsCommitFault body place → (d : ((v : Commit) × IsCommitText v body) ⊎ ((at : ℕ) × IsCommitFault body at)) → parents_read body d ≡ None
refused body place fault (inl found) = absurd (apart found.0 body place found.1 fault)
refused body place fault (inr more) = refl

taken : (body : List ℕ) (commit : Commit) → IsCommitText commit body → (d : ((v : Commit) × IsCommitText v body) ⊎ ((at : ℕ) × IsCommitFault body at))
    → parents_read body d ≡ Some commit.parents
taken body commit text (inl found) = ap (λ (c : Commit). Some c.parents) (one_value found.0 commit body found.1 text)
taken body commit text (inr fault) = absurd (apart commit body fault.0 text fault.1)

module _ (r : Repository) (id : List ℕ) where
  pub missing : ((pair : Pair) → HasObject r id pair → ⊥) → commit_parents r id ≡ None
  unfolding commit_parents
  missing none = ap parents_in (object_none r id none)

  by_pair : (pair : Pair) → HasObject r id pair → commit_parents r id ≡ parents_of_kind pair.kind pair.body
  unfolding commit_parents
  by_pair pair has = ap parents_in (object_there r id pair has)

  pub other : (pair : Pair) → HasObject r id pair → (pair.kind ≡ kind.Commit → ⊥) → commit_parents r id ≡ None
  other pair has never = by_pair pair has ∙ other_kind pair.kind pair.body never

  by_commit : (pair : Pair) → HasObject r id pair → pair.kind ≡ kind.Commit → commit_parents r id ≡ parents_read pair.body (commit_decided pair.body)
  by_commit pair has is = by_pair pair has ∙ ap (λ (k : Kind). parents_of_kind k pair.body) is

  pub bad : (pair : Pair) (place : ℕ) → HasObject r id pair → pair.kind ≡ kind.Commit → IsCommitFault pair.body place → commit_parents r id ≡ None
  bad pair place has is fault = by_commit pair has is ∙ refused pair.body place fault (commit_decided pair.body)

  pub there : (pair : Pair) (commit : Commit) → HasObject r id pair → pair.kind ≡ kind.Commit → IsCommitText commit pair.body → commit_parents r id ≡ Some commit.parents
  there pair commit has is text = by_commit pair has is ∙ taken pair.body commit text (commit_decided pair.body)

  -- ---- what the definition says

  no_kind : (pair : Pair) → HasObject r id pair → (pair.kind ≡ kind.Commit → ⊥) → AreParentsAt r id (commit_parents r id)
  no_kind pair has never =
      subst (AreParentsAt r id) (sym (other pair has never))
      (λ parents named. never (ap (λ (p : Pair). p.kind) (same_pair r id pair named.pair has named.kept) ∙ named.kind_is))

  read_body : (pair : Pair) → HasObject r id pair → pair.kind ≡ kind.Commit → AreParentsAt r id (commit_parents r id)
  read_body pair has is = elim (commit_decided pair.body) [
    | inl found ↦
        subst (AreParentsAt r id) (sym (there pair found.0 has is found.1))
        (record { pair = pair; kept = has; kind_is = is; commit = found.0; text = found.1; parents_are = refl })
    | inr fault ↦
        subst (AreParentsAt r id) (sym (bad pair fault.0 has is fault.1))
        (λ parents named. apart named.commit pair.body fault.0
        (subst (λ (p : Pair). IsCommitText named.commit p.body) (sym (same_pair r id pair named.pair has named.kept)) named.text) fault.1)
  ]

  by_kind : (pair : Pair) → HasObject r id pair → (k : Kind) → pair.kind ≡ k → AreParentsAt r id (commit_parents r id)
  by_kind pair has kind.Commit is = read_body pair has is
  by_kind pair has kind.Blob is = no_kind pair has (λ e. let f = sym is ∙ e in cc)
  by_kind pair has kind.Tree is = no_kind pair has (λ e. let f = sym is ∙ e in cc)
  by_kind pair has kind.Tag is = no_kind pair has (λ e. let f = sym is ∙ e in cc)

  by_object : (found : Option Pair) → object_at r id ≡ found → AreParentsAt r id (commit_parents r id)
  by_object None is =
      subst (AreParentsAt r id) (sym (missing (λ pair has. let e = sym is ∙ object_there r id pair has in cc)))
      (λ parents named. let e = sym is ∙ object_there r id named.pair named.kept in cc)
  by_object (Some pair) is = let has = has_there r id pair is in by_kind pair has pair.kind refl

  pub are_parents : AreParentsAt r id (commit_parents r id)
  are_parents = by_object (object_at r id) refl
