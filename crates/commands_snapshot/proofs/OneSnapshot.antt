-- For the same bytes and repository `snapshot` ends in one way at most.
use Rattle.std.proofs.Common.{◌≡◌, ℕ, List, inl, inr, refl, subst, sym, ap, ◌∙◌, arith}
use Rattle.std.specs.Prelude.{Option, Some, None, Result, Ok, Err}
use Rattle.std.specs.FinMap.{get}
use Rattle.git_object.specs.Repository.{Repository}
use Rattle.worlds.specs.declared.ending.Ending.{Ending}
use Rattle.worlds.specs.declared.ending.Ending.TheVariants.{Done, Refused}
use Rattle.worlds.specs.declared.ending.Refusal.TheVariants as refusal
use Rattle.commands_snapshot.specs.Contents.{HasMade, HasNoParent, IsSettled, MaySnap, SnapshotComes}
use Rattle.commands_snapshot.specs.Parents.{HasCommit, HasNoCommit, IsParent}
use Rattle.commands_snapshot.specs.Snapshots.{snapshot_ending}
use Rattle.commands_snapshot.specs.declared.making.InputFault.TheVariants as input
use Rattle.commands_snapshot.specs.declared.snapshots.SnapshotFault.{SnapshotFault}
use Rattle.commands_snapshot.specs.declared.snapshots.SnapshotFault.TheVariants.{Untaken, Unstored, SinkFailed}
use Rattle.commands_snapshot.specs.declared.storing.StoringFault.TheVariants as storing

no_some : {X : Type 0} (x : X) → Some x ≡ None → ⊥
no_some x e = cc

same_id : (x y : List ℕ) (told : Option (List ℕ)) → told ≡ Some x → told ≡ Some y → x ≡ y
same_id x y told e f = cc

-- where a reference stands at a commit or nowhere, it stands at no other thing
one_parent : (was : Repository) (name id : List ℕ) (parent : Option (List ℕ)) → IsParent was name parent → HasNoCommit was name id → ⊥
one_parent was name id None is none = no_some id (sym none.stands ∙ is)
one_parent was name id (Some at) is none =
    none.none (subst (λ (i : List ℕ). HasCommit was i) (same_id at id (get was.refs name) is.0 none.stands) is.1)

module _ (name bytes : List ℕ) (was : Repository) (settled : IsSettled bytes) where
  -- how it ends, and why
  pub data Ends : Ending → Type 0 where
    Snapped : MaySnap name bytes was → Ends Done
    Declined : (HasMade name bytes was → ⊥) → Ends (Refused refusal.Input)
    Unparented : (id : List ℕ) → HasNoParent name bytes was id → Ends (Refused (refusal.Object id))

  ends : (outcome : Result (Unit {0}) SnapshotFault) → SnapshotComes name bytes was outcome → Ends (snapshot_ending outcome)
  ends (Ok done) comes = Snapped comes
  ends (Err (Untaken input.TooLong)) comes = Declined (λ made. let short = made.short in omega arith)
  ends (Err (Untaken input.NoListing)) comes = Declined (λ made. comes.1 made.made_of.rows made.made_of.has)
  ends (Err (Untaken input.NoTree)) comes = Declined (λ made. settled made.made made.made_of (inl comes.1))
  ends (Err (Untaken input.LargeTree)) comes = Declined (λ made. settled made.made made.made_of (inr comes.1))
  ends (Err (Untaken input.SourceFailed)) comes = absurd comes
  ends (Err (Untaken input.Memory)) comes = absurd comes
  ends (Err (Unstored storing.KeeperFailed)) comes = absurd comes
  ends (Err (Unstored (storing.NoCommit id))) comes = Unparented id comes
  ends (Err (Unstored storing.ClockFailed)) comes = absurd comes
  ends (Err (Unstored storing.CommitFailed)) comes = absurd comes
  ends (Err (Unstored storing.Memory)) comes = absurd comes
  ends (Err SinkFailed) comes = absurd comes

  one : (x y : Ending) → Ends x → Ends y → x ≡ y
  one _ _ (Snapped may) (Snapped also) = refl
  one _ _ (Snapped may) (Declined none) = absurd (none may.input)
  one _ _ (Snapped may) (Unparented id other) = absurd (one_parent was name id may.parent may.is_parent other.none)
  one _ _ (Declined none) (Snapped may) = absurd (none may.input)
  one _ _ (Declined none) (Declined also) = refl
  one _ _ (Declined none) (Unparented id other) = absurd (none other.input)
  one _ _ (Unparented id is) (Snapped may) = absurd (one_parent was name id may.parent may.is_parent is.none)
  one _ _ (Unparented id is) (Declined none) = absurd (none is.input)
  one _ _ (Unparented id is) (Unparented at other) = ap (λ (i : List ℕ). Refused (refusal.Object i)) (same_id id at (get was.refs name) is.none.stands other.none.stands)

pub same_snapshot : (name bytes : List ℕ) (was : Repository) (a b : Result (Unit {0}) SnapshotFault) → IsSettled bytes
    → SnapshotComes name bytes was a → SnapshotComes name bytes was b → snapshot_ending a ≡ snapshot_ending b
same_snapshot name bytes was a b settled is other =
    one name bytes was settled (snapshot_ending a) (snapshot_ending b) (ends name bytes was settled a is) (ends name bytes was settled b other)
