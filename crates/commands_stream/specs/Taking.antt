-- A stream that is taken into the store, or refused, and the repository that is then open.
use Rattle.std.specs.Prelude.{◌≡◌, ◌≢◌, ◌⊎◌, ℕ, List, Option, Some, Result, Ok, Err, Bool, IsTrue, false}
use Rattle.git_object.specs.Repository.{Repository, empty_repository}
use Rattle.keeper_api.specs.Undisturbed.{Undisturbed}
use Rattle.keeper_api.specs.declared.keepers.Keeper as keeper
use Rattle.clone_stream.specs.Deciding.{Decides, FailsUnbroken}
use Rattle.clone_stream.specs.Faults.{fault_number}
use Rattle.clone_stream.specs.Taking.{MayLack, MayTake, TakesInto}
use Rattle.clone_stream.specs.declared.stream_faults.StreamFault.{StreamFault}
use Rattle.clone_stream.specs.declared.stream_faults.StreamFault.TheVariants as stream
use Rattle.worlds.specs.declared.ending.Ending.{Ending}
use Rattle.worlds.specs.declared.ending.Ending.TheVariants.{Done, Refused}
use Rattle.worlds.specs.declared.ending.Part.TheVariants as part
use Rattle.worlds.specs.declared.ending.Refusal.{Refusal}
use Rattle.worlds.specs.declared.ending.Refusal.TheVariants as refusal
use Rattle.commands_stream.specs.declared.taking.TakeFault.{TakeFault}
use Rattle.commands_stream.specs.declared.taking.TakeFault.TheVariants.{Stream, SourceFailed, KeeperFailed, Memory}

-- why no stream was taken, of a refused stream
abbrev pub take_fault : StreamFault → TakeFault
take_fault (stream.BadLine at) = Stream (fault_number (stream.BadLine at))
take_fault (stream.IdDiffers id found) = Stream (fault_number (stream.IdDiffers id found))
take_fault (stream.Order at) = Stream (fault_number (stream.Order at))
take_fault (stream.TooLarge limit) = Stream (fault_number (stream.TooLarge limit))
take_fault (stream.Truncated at) = Stream (fault_number (stream.Truncated at))
take_fault stream.SourceFailed = SourceFailed
take_fault stream.KeeperFailed = KeeperFailed
take_fault stream.NotEmpty = Stream (fault_number stream.NotEmpty)
take_fault stream.Memory = Memory

-- the refusal that the program then says
abbrev pub take_refusal : TakeFault → Refusal
take_refusal (Stream number) = refusal.Stream number
take_refusal SourceFailed = refusal.Fault part.Source
take_refusal KeeperFailed = refusal.Fault part.Keeper
take_refusal Memory = refusal.Memory

abbrev pub take_ending : Result (Unit {0}) TakeFault → Ending
take_ending (Ok done) = Done
take_ending (Err fault) = Refused (take_refusal fault)

module _ {R : Type 0} (keeper_of : keeper.Ghosts R) (left left_now : Option (List ℕ)) (old new : R) where
  -- the store held something, so nothing was read
  pub record FindsFull : Type 0 where
    pub unread : left_now ≡ left
    pub same : Undisturbed keeper_of old new
    pub full : (r : Repository) → keeper_of.content new ≡ Some r → r ≢ empty_repository

  -- the store held nothing, and this decides how the source's bytes are refused
  pub record FindsBroken (number : ℕ) : Type 0 where
    pub fault : StreamFault
    pub number_is : number ≡ fault_number fault
    pub decides : (input : List ℕ) → left ≡ Some input → Decides input fault
    pub same : Undisturbed keeper_of old new
    pub empty : (r : Repository) → keeper_of.content new ≡ Some r → r ≡ empty_repository

  -- the source failed, and what it gave until then is refused by nothing
  pub record FailsReading : Type 0 where
    pub same : Undisturbed keeper_of old new
    pub unbroken : (input : List ℕ) → left ≡ Some input → FailsUnbroken input left_now

  -- memory was wanting, and not where the bytes are refused without any
  pub record LacksMemory : Type 0 where
    pub same : Undisturbed keeper_of old new
    pub lacks : (input : List ℕ) → left ≡ Some input → MayLack input left_now

  -- no stream was taken
  abbrev pub RefusesStream : ℕ → Type 0
  RefusesStream number = ((number ≡ 8) × FindsFull) ⊎ FindsBroken number

  -- what each refusal means: the store is as before but where it failed itself
  abbrev pub DeclinesTaking : TakeFault → Type 0
  DeclinesTaking (Stream number) = RefusesStream number
  DeclinesTaking SourceFailed = FailsReading
  DeclinesTaking KeeperFailed = MayTake keeper_of left left_now old new
  DeclinesTaking Memory = LacksMemory

-- the repository is open: where a stream was asked for, it was taken, and else nothing was read
abbrev pub Opens : Bool → {R : Type 0} → keeper.Ghosts R → Option (List ℕ) → Option (List ℕ) → R → R → Type 0
Opens stdin keeper_of left left_now old new =
    (IsTrue stdin × TakesInto keeper_of left left_now old new)
    ⊎ ((stdin ≡ false) × (left_now ≡ left) × Undisturbed keeper_of old new)

-- no repository is open: a stream was asked for, and none was taken
abbrev pub DeclinesOpening : Bool → {R : Type 0} → keeper.Ghosts R → Option (List ℕ) → Option (List ℕ) → R → R
    → TakeFault → Type 0
DeclinesOpening stdin keeper_of left left_now old new fault = IsTrue stdin
    × DeclinesTaking keeper_of left left_now old new fault
