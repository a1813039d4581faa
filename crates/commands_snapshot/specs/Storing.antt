-- What storing a snapshot does: its objects and one commit, and the reference at it.
use Rattle.std.specs.Prelude.{◌≡◌, ◌⊎◌, ◌++◌, ◌∷◌, [], ℕ, Bool, true, false, List, Option, Some, Result, Ok, Err, codes}
use Rattle.octets.specs.Content.{with_front}
use Rattle.git_object.specs.Objects.{Pair, pair_id}
use Rattle.git_object.specs.Repository.{Repository}
use Rattle.keeper_api.specs.Undisturbed.{Undisturbed}
use Rattle.keeper_api.specs.declared.changes.Change.{Change}
use Rattle.keeper_api.specs.declared.keeper_faults.KeeperFault.{KeeperFault}
use Rattle.keeper_api.specs.declared.keeper_faults.KeeperFault.TheVariants.{Failed}
use Rattle.keeper_api.specs.declared.keeper_faults.KeeperFault.TheVariants as none
use Rattle.keeper_api.specs.declared.keepers.Keeper as keeper
use Rattle.object_making.specs.Texts.{commit_pair}
use Rattle.commands_snapshot.specs.Parents.{HasNoCommit, IsParent}
use Rattle.keeper_api.specs.Committing.{Gains, MayGain}
use Rattle.commands_snapshot.specs.declared.making.Made.{Made}
use Rattle.commands_snapshot.specs.declared.parents.ParentFault.{ParentFault}
use Rattle.commands_snapshot.specs.declared.parents.ParentFault.TheVariants as parent
use Rattle.commands_snapshot.specs.declared.storing.StoringFault.{StoringFault}
use Rattle.commands_snapshot.specs.declared.storing.StoringFault.TheVariants.{KeeperFailed, NoCommit, ClockFailed}
use Rattle.commands_snapshot.specs.declared.storing.StoringFault.TheVariants.{CommitFailed, Memory}

-- the commit of a snapshot
abbrev pub snapshot_commit : Made → Option (List ℕ) → ℕ → Pair
snapshot_commit made parent seconds = commit_pair made.root parent seconds (codes "snapshot\n")

-- the objects that were made, the commit, and the reference at it
abbrev pub snapshot_change : List ℕ → List Pair → Pair → Change
snapshot_change name objects commit = record {
  objects = objects ++ commit ∷ [];
  refs = record { name = name; to = Some (pair_id commit) } ∷ [];
}

-- what a refusal of the parent is here
abbrev pub no_parent : ParentFault → StoringFault
no_parent parent.Failed = KeeperFailed
no_parent (parent.NoCommit id) = NoCommit id
no_parent parent.Memory = Memory

-- the faults that the store and the clock count
abbrev pub keeper_failed : StoringFault → Bool
keeper_failed KeeperFailed = true
keeper_failed (NoCommit id) = false
keeper_failed ClockFailed = false
keeper_failed CommitFailed = true
keeper_failed Memory = false

abbrev pub clock_failed : StoringFault → Bool
clock_failed KeeperFailed = false
clock_failed (NoCommit id) = false
clock_failed ClockFailed = true
clock_failed CommitFailed = false
clock_failed Memory = false

-- the clock told the seconds
abbrev pub Asks : Option (List ℕ) → Option (List ℕ) → ℕ → Type 0
Asks time time_now seconds = time ≡ with_front (seconds ∷ []) time_now

-- or it told nothing
abbrev pub MayAsk : Option (List ℕ) → Option (List ℕ) → Type 0
MayAsk time time_now = (time_now ≡ time) ⊎ ((seconds : ℕ) × Asks time time_now seconds)

-- what each outcome of the commit means
abbrev pub CommitEnds : {R : Type 0} → keeper.Ghosts R → List ℕ → Made → Option (List ℕ) → ℕ → R → R
    → Result (List ℕ) KeeperFault → Type 0
CommitEnds keeper_of name made parent seconds old new (Ok id) =
    (id ≡ pair_id (snapshot_commit made parent seconds))
    × Gains keeper_of old new (snapshot_change name made.objects (snapshot_commit made parent seconds))
CommitEnds keeper_of name made parent seconds old new (Err Failed) =
    MayGain keeper_of old new (snapshot_change name made.objects (snapshot_commit made parent seconds))
CommitEnds keeper_of name made parent seconds old new (Err none.Memory) = Undisturbed keeper_of old new

module _ {R : Type 0} (keeper_of : keeper.Ghosts R) (name : List ℕ) (made : Made) (time time_now : Option (List ℕ))
    (old new : R) where
  -- the reference stood at this parent in what is told, and this is what became of the snapshot's change
  pub record Stores (Held : Change → Type 0) (id : List ℕ) : Type 0 where
    pub parent : Option (List ℕ)
    pub parent_is : (now : Repository) → keeper_of.content new ≡ Some now → (was : Repository)
        × (keeper_of.content old ≡ Some was) × IsParent was name parent
    pub seconds : ℕ
    pub asked : Asks time time_now seconds
    pub id_is : id ≡ pair_id (snapshot_commit made parent seconds)
    pub held : Held (snapshot_change name made.objects (snapshot_commit made parent seconds))

  -- nothing was changed, and the clock told nothing
  pub record Refrains (P : Repository → Type 0) : Type 0 where
    pub same : Undisturbed keeper_of old new
    pub unasked : time_now ≡ time
    pub why : (now : Repository) → keeper_of.content new ≡ Some now → P now

  -- nothing was changed, for want of memory
  pub record Wants : Type 0 where
    pub same : Undisturbed keeper_of old new
    pub asked : MayAsk time time_now

  abbrev pub RefusesStoring : StoringFault → Type 0
  RefusesStoring KeeperFailed = Refrains (λ r. Unit {0})
  RefusesStoring (NoCommit id) = Refrains (λ r. HasNoCommit r name id)
  RefusesStoring ClockFailed = Refrains (λ r. (parent : Option (List ℕ)) × IsParent r name parent)
  RefusesStoring CommitFailed = (id : List ℕ) × Stores (MayGain keeper_of old new) id
  RefusesStoring Memory = Wants

  abbrev pub StoringEnds : Result (List ℕ) StoringFault → Type 0
  StoringEnds (Ok id) = Stores (Gains keeper_of old new) id
  StoringEnds (Err fault) = RefusesStoring fault
