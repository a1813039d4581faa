-- Whether there is a commit at an id.
use Rattle.std.proofs.Common.{◌≡◌, ◌∙◌, ◌↔◌, ℕ, Bool, true, false, List, sym, subst}
use Rattle.std.specs.Prelude.{IsTrue, Option, Some}
use Rattle.std.proofs.lemmas.Bool.{false≢true}
use Rattle.git_object.specs.Commits.{IsCommit}
use Rattle.git_object.specs.Objects.{Pair}
use Rattle.git_object.specs.Repository.{HasObject, Repository}
use Rattle.commands_snapshot.specs.Parents.{HasCommit, is_commit}

same_some : {X : Type 0} (x y : X) (kept : Option X) → kept ≡ Some x → kept ≡ Some y → x ≡ y
same_some x y kept e f = cc

module _ (r : Repository) (id : List ℕ) (pair : Pair) (kept : HasObject r id pair) where
  same_pair : (has : HasCommit r id) → has.pair ≡ pair
  same_pair has = same_some has.pair pair _ has.kept.kept kept.kept

  -- the object there is of another kind
  pub other_kind : is_commit pair.kind ≡ false → HasCommit r id → ⊥
  other_kind other has = false≢true (sym other ∙ subst (λ (p : Pair). is_commit p.kind ≡ true) (same_pair has) has.kind_is)

  pub by_body : (reads : Bool) → is_commit pair.kind ≡ true → (IsTrue reads ↔ IsCommit pair.body) → (IsTrue reads ↔ HasCommit r id)
  by_body reads is tells = (
    λ yes. record { pair = pair; kept = kept; kind_is = is; is = tells.0 yes },
    λ has. tells.1 (subst (λ (p : Pair). IsCommit p.body) (same_pair has) has.is),
  )
