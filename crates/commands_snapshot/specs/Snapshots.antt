-- What each outcome of `snapshot` means, and how the program ends then.
use Rattle.std.specs.Prelude.{◌≡◌, ◌++◌, ℕ, List, Option, Result, Ok, Err, codes}
use Rattle.hex.specs.Hex.{encode_lower}
use Rattle.octets.specs.Content.{GainsPart, with_end}
use Rattle.keeper_api.specs.declared.keepers.Keeper as keeper
use Rattle.worlds.specs.declared.ending.Ending.{Ending}
use Rattle.worlds.specs.declared.ending.Ending.TheVariants.{Done, Refused}
use Rattle.worlds.specs.declared.ending.Part.TheVariants as part
use Rattle.worlds.specs.declared.ending.Refusal.TheVariants as refusal
use Rattle.commands_snapshot.specs.Making.{RefusesInput, Takes}
use Rattle.keeper_api.specs.Committing.{Gains}
use Rattle.commands_snapshot.specs.Storing.{RefusesStoring, Stores}
use Rattle.commands_snapshot.specs.declared.making.InputFault.{InputFault}
use Rattle.commands_snapshot.specs.declared.making.InputFault.TheVariants as input
use Rattle.commands_snapshot.specs.declared.making.Made.{Made}
use Rattle.commands_snapshot.specs.declared.storing.StoringFault.{StoringFault}
use Rattle.commands_snapshot.specs.declared.storing.StoringFault.TheVariants as storing
use Rattle.commands_snapshot.specs.declared.snapshots.SnapshotFault.{SnapshotFault}
use Rattle.commands_snapshot.specs.declared.snapshots.SnapshotFault.TheVariants.{Untaken, Unstored, SinkFailed}

-- ---- how the program ends
abbrev pub input_ending : InputFault → Ending
input_ending input.TooLong = Refused refusal.Input
input_ending input.NoListing = Refused refusal.Input
input_ending input.NoTree = Refused refusal.Input
input_ending input.LargeTree = Refused refusal.Input
input_ending input.SourceFailed = Refused (refusal.Fault part.Source)
input_ending input.Memory = Refused refusal.Memory

abbrev pub storing_ending : StoringFault → Ending
storing_ending storing.KeeperFailed = Refused (refusal.Fault part.Keeper)
storing_ending (storing.NoCommit id) = Refused (refusal.Object id)
storing_ending storing.ClockFailed = Refused (refusal.Fault part.Clock)
storing_ending storing.CommitFailed = Refused (refusal.Fault part.Keeper)
storing_ending storing.Memory = Refused refusal.Memory

abbrev pub snapshot_ending : Result (Unit {0}) SnapshotFault → Ending
snapshot_ending (Ok done) = Done
snapshot_ending (Err (Untaken fault)) = input_ending fault
snapshot_ending (Err (Unstored fault)) = storing_ending fault
snapshot_ending (Err SinkFailed) = Refused (refusal.Fault part.Sink)

-- ---- what it means
-- the line that tells a commit
abbrev pub commit_line : List ℕ → List ℕ
commit_line id = codes "commit " ++ encode_lower id ++ codes "\n"

module _ {R : Type 0} (keeper_of : keeper.Ghosts R) (name : List ℕ) (left left_now time time_now : Option (List ℕ))
    (old new : R) where
  -- the listing that the source gave was stored, and the reference stands at its commit
  pub record Snaps (id : List ℕ) : Type 0 where
    pub made : Made
    pub takes : Takes left left_now made
    pub stores : Stores keeper_of name made time time_now old new (Gains keeper_of old new) id

  -- the listing that the source gave was not stored
  pub record SnapsNone (fault : StoringFault) : Type 0 where
    pub made : Made
    pub takes : Takes left left_now made
    pub refuses : RefusesStoring keeper_of name made time time_now old new fault

  -- nothing was made of what the source gave, and the store and the clock are the same
  pub record Unmade (fault : InputFault) : Type 0 where
    pub refuses : RefusesInput left left_now fault
    pub same : new ≡ old
    pub unasked : time_now ≡ time

  abbrev pub StoredEnds : Result (List ℕ) SnapshotFault → Type 0
  StoredEnds (Ok id) = Snaps id
  StoredEnds (Err (Untaken fault)) = Unmade fault
  StoredEnds (Err (Unstored fault)) = SnapsNone fault
  StoredEnds (Err SinkFailed) = ⊥

  abbrev pub SnapshotEnds : Option (List ℕ) → Option (List ℕ) → Result (Unit {0}) SnapshotFault → Type 0
  SnapshotEnds printed printed_now (Ok done) = (id : List ℕ) × Snaps id
      × (printed_now ≡ with_end printed (commit_line id))
  SnapshotEnds printed printed_now (Err (Untaken fault)) = Unmade fault × (printed_now ≡ printed)
  SnapshotEnds printed printed_now (Err (Unstored fault)) = SnapsNone fault × (printed_now ≡ printed)
  SnapshotEnds printed printed_now (Err SinkFailed) = (id : List ℕ) × Snaps id
      × GainsPart printed printed_now (commit_line id)
