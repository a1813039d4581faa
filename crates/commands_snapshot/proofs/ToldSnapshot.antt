-- What `snapshot` comes to where source and store tell what they hold.
use Rattle.std.proofs.Common.{◌≡◌, ◌⊎◌, ◌<◌, ◌≤◌, ◌+◌, ◌++◌, ℕ, List, length, inl, inr, refl, subst, sym, ap, ◌∙◌, arith}
use Rattle.std.specs.Prelude.{Option, Some, None, Result, Ok, Err}
use Rattle.std.proofs.lemmas.List.{append-nil, length-append}
use Rattle.octets.specs.Content.{with_front}
use Rattle.git_object.specs.Repository.{Repository}
use Rattle.edge_io.specs.Read.{IsAtEnd}
use Rattle.keeper_api.specs.declared.keepers.Keeper as keeper
use Rattle.worlds.specs.Endings.{IsStopped}
use Rattle.commands_snapshot.specs.Contents.{HasMade, SnapshotComes}
use Rattle.commands_snapshot.specs.Making.{Gives, MadeOf, Takes, TakesNone, WhyUnmade}
use Rattle.commands_snapshot.specs.OutcomeLaws.{TellsOfTrees}
use Rattle.commands_snapshot.specs.Parents.{HasNoCommit, IsParent}
use Rattle.commands_snapshot.specs.Snapshots.{SnapshotEnds, snapshot_ending}
use Rattle.commands_snapshot.specs.declared.making.InputFault.{InputFault}
use Rattle.commands_snapshot.specs.declared.making.InputFault.TheVariants as input
use Rattle.commands_snapshot.specs.declared.making.Made.{Made}
use Rattle.commands_snapshot.specs.declared.snapshots.SnapshotFault.{SnapshotFault}
use Rattle.commands_snapshot.specs.declared.snapshots.SnapshotFault.TheVariants.{Untaken, Unstored, SinkFailed}
use Rattle.commands_snapshot.specs.declared.storing.StoringFault.TheVariants as storing

same_some : {X : Type 0} (x y : X) (told : Option X) → told ≡ Some x → told ≡ Some y → x ≡ y
same_some x y told e f = cc

no_some : {X : Type 0} (x : X) → Some x ≡ None → ⊥
no_some x e = cc

-- all that was there was taken
taken : (bytes read : List ℕ) (left : Option (List ℕ)) → Some bytes ≡ with_front read left → IsAtEnd left → read ≡ bytes
taken bytes read None is end = absurd (no_some bytes is)
taken bytes read (Some rest) is end = sym (append-nil read) ∙ ap (λ (r : List ℕ). read ++ r) (sym end) ∙ sym (same_some bytes (read ++ rest) (Some bytes) refl is)

more : (bytes read : List ℕ) (left : Option (List ℕ)) → Some bytes ≡ with_front read left → length read ≡ 1073741824 + 1 → 1073741824 < length bytes
more bytes read None is long = absurd (no_some bytes is)
more bytes read (Some rest) is long =
    let whole : length bytes ≡ length (read ++ rest) = ap length (same_some bytes (read ++ rest) (Some bytes) refl is) in
    omega (arith, whole, long, length-append read rest)

module _ {R : Type 0} (keeper_of : keeper.Ghosts R) (name : List ℕ) (left_now : Option (List ℕ)) (bytes : List ℕ) (time time_now : Option (List ℕ)) (was now : Repository) (old new : R)
    (held : keeper_of.content old ≡ Some was) (holds : keeper_of.content new ≡ Some now) where
  short : (read : List ℕ) → Gives (Some bytes) left_now read → length bytes ≤ 1073741824
  short read gives = subst (λ (l : List ℕ). length l ≤ 1073741824) (taken bytes read left_now gives.read gives.end) gives.short

  has_made : (made : Made) → Takes (Some bytes) left_now made → HasMade name bytes was
  has_made made takes = record {
    made = made;
    short = short takes.text takes.gives;
    made_of = subst (λ (l : List ℕ). MadeOf l made) (taken bytes takes.text left_now takes.gives.read takes.gives.end) takes.made_of;
  }

  has_none : (fault : InputFault) → TakesNone (Some bytes) left_now fault → (length bytes ≤ 1073741824) × WhyUnmade bytes fault
  has_none fault none = (
    short none.text none.gives,
    subst (λ (l : List ℕ). WhyUnmade l fault) (taken bytes none.text left_now none.gives.read none.gives.end) none.why,
  )

  told : (printed printed_now : Option (List ℕ)) (outcome : Result (Unit {0}) SnapshotFault)
      → SnapshotEnds keeper_of name (Some bytes) left_now time time_now old new printed printed_now outcome → SnapshotComes name bytes was outcome ⊎ IsStopped (snapshot_ending outcome)
  told printed printed_now (Ok done) means =
      let snaps = means.1 in
      let before = snaps.stores.parent_is now holds in
      inl (record {
        input = has_made snaps.made snaps.takes;
        parent = snaps.stores.parent;
        is_parent = subst (λ (r : Repository). IsParent r name snaps.stores.parent) (same_some before.0 was (keeper_of.content old) before.1 held) before.2;
      })
  told printed printed_now (Err (Untaken input.TooLong)) means = inl (more bytes means.0.refuses.bytes left_now means.0.refuses.read means.0.refuses.more)
  told printed printed_now (Err (Untaken input.NoListing)) means = inl (has_none input.NoListing means.0.refuses)
  told printed printed_now (Err (Untaken input.NoTree)) means = inl (has_none input.NoTree means.0.refuses)
  told printed printed_now (Err (Untaken input.LargeTree)) means = inl (has_none input.LargeTree means.0.refuses)
  told printed printed_now (Err (Untaken input.SourceFailed)) means = inr tt
  told printed printed_now (Err (Untaken input.Memory)) means = inr tt
  told printed printed_now (Err (Unstored storing.KeeperFailed)) means = inr tt
  told printed printed_now (Err (Unstored (storing.NoCommit id))) means =
      let none = means.0 in
      inl (record {
        input = has_made none.made none.takes;
        none = subst (λ (r : Repository). HasNoCommit r name id) (same_some now was (keeper_of.content old) (none.refuses.same.content now holds) held) (none.refuses.why now holds);
      })
  told printed printed_now (Err (Unstored storing.ClockFailed)) means = inr tt
  told printed printed_now (Err (Unstored storing.CommitFailed)) means = inr tt
  told printed printed_now (Err (Unstored storing.Memory)) means = inr tt
  told printed printed_now (Err SinkFailed) means = inr tt

pub tells_of_trees : {R : Type 0} (keeper_of : keeper.Ghosts R) → TellsOfTrees keeper_of
tells_of_trees keeper_of = record {
  snapshot = λ name left_now bytes time time_now was now old new printed printed_now outcome held holds means.
      told keeper_of name left_now bytes time time_now was now old new held holds printed printed_now outcome means;
}
