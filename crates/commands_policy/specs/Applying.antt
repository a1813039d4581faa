-- What each outcome of `policy-apply` means.
use Rattle.std.specs.Prelude.{◌≡◌, ◌<◌, ◌++◌, ℕ, Bool, false, List, length, Option, Some, None, Result, Ok, Err, codes}
use Rattle.git_object.specs.Repository.{Repository, value_of}
use Rattle.keeper_api.specs.declared.keepers.Keeper as keeper
use Rattle.edge_io.specs.declared.disks.Disk as disk
use Rattle.git_object.specs.References.{policy_name}
use Rattle.rsl_chain.specs.declared.entries.Entry.{Entry}
use Rattle.rsl_chain.specs.declared.entries.EntryBody.{EntryBody}
use Rattle.rsl_chain.specs.Logs.{IsLogOf}
use Rattle.rsl_chain.specs.Histories.{IsHistory}
use Rattle.log_appending.specs.Opening.{HoldsKey, unread_disk, unread_keeper}
use Rattle.log_appending.specs.Recording as recording
use Rattle.log_appending.specs.Signing as append
use Rattle.log_appending.specs.Untouched.{Untouched}
use Rattle.log_appending.specs.declared.appending.AppendFault.{AppendFault}
use Rattle.log_appending.specs.declared.appending.Appended.{Appended}
use Rattle.log_appending.specs.declared.opening.ReadingFault.TheVariants as reading
use Rattle.log_appending.specs.declared.telling.RecordFault.{RecordFault}
use Rattle.policy_epochs.specs.Telling.{fault_text}
use Rattle.policy_epochs.specs.declared.faults.PolicyFault.{PolicyFault}
use Rattle.policy_reading.specs.InForce.{epoch_fault}
use Rattle.commands_policy.specs.declared.applying.ApplyFault.{ApplyFault}
use Rattle.commands_policy.specs.declared.applying.ApplyFault.TheVariants.{Unrecorded, Refused}
use Rattle.commands_policy.specs.declared.policies.NotApplied.{NotApplied}
use Rattle.commands_policy.specs.declared.policies.NotApplied.TheVariants as none

-- ---- which refusals are a fault of the store, of the disk, of the clock, before anything is printed
abbrev pub no_keeper : NotApplied → Bool
no_keeper (none.Unread fault) = unread_keeper fault
no_keeper (none.Refused why line) = false
no_keeper (none.Unappended fault) = append.commit_failed fault

abbrev pub no_disk : NotApplied → Bool
no_disk (none.Unread fault) = unread_disk fault
no_disk (none.Refused why line) = false
no_disk (none.Unappended fault) = append.disk_failed fault

abbrev pub no_clock : NotApplied → Bool
no_clock (none.Unread fault) = false
no_clock (none.Refused why line) = false
no_clock (none.Unappended fault) = append.clock_failed fault

-- and of the command
abbrev pub sink_failed : ApplyFault → Bool
sink_failed (Unrecorded fault) = recording.sink_failed fault
sink_failed (Refused why line) = false

abbrev pub keeper_failed : ApplyFault → Bool
keeper_failed (Unrecorded fault) = recording.keeper_failed fault
keeper_failed (Refused why line) = false

abbrev pub disk_failed : ApplyFault → Bool
disk_failed (Unrecorded fault) = recording.disk_failed fault
disk_failed (Refused why line) = false

abbrev pub clock_failed : ApplyFault → Bool
clock_failed (Unrecorded fault) = recording.clock_failed fault
clock_failed (Refused why line) = false

-- ---- the policy that is to be recorded

-- the line that tells a refused policy
abbrev pub policy_line : PolicyFault → List ℕ
policy_line why = codes "policy " ++ fault_text why ++ codes "\n"

-- an entry for the policy, of this target, has this fault behind the repository's log, or is an epoch
pub record HasEpochFault (r : Repository) (target : List ℕ) (fault : Option PolicyFault) : Type 0 where
  pub entries : List Entry
  pub history : IsHistory r entries
  pub is : fault ≡ epoch_fault None r entries target

-- the value of a reference is an epoch, or what keeps it from being one
abbrev pub Judges : Repository → List ℕ → Result (List ℕ) PolicyFault → Type 0
Judges r name (Ok target) = (target ≡ value_of r name) × HasEpochFault r target None
Judges r name (Err why) = HasEpochFault r (value_of r name) (Some why)

-- the body records the value of the policy's reference, with which it is an epoch
pub record RecordsEpoch (ids : List (List ℕ)) (body : EntryBody) (r : Repository) : Type 0 where
  pub value : recording.RecordsValue policy_name ids body r
  pub epoch : HasEpochFault r (value_of r policy_name) None

-- the log has room, and with the value of the policy's reference an entry has this fault
pub record HasPolicyFault (r : Repository) (why : PolicyFault) : Type 0 where
  pub ids : List (List ℕ)
  pub log : IsLogOf r ids
  pub short : length ids < 1000000
  pub fault : HasEpochFault r (value_of r policy_name) (Some why)

-- the refusal of a policy, or want of memory for its line
abbrev pub IsRefusal : PolicyFault → NotApplied → Type 0
IsRefusal why (none.Unread fault) = fault ≡ reading.Memory
IsRefusal why (none.Refused told line) = (told ≡ why) × (line ≡ policy_line why)
IsRefusal why (none.Unappended fault) = ⊥

module _ {R D : Type 0} (keeper_of : keeper.Ghosts R) (disk_of : disk.Ghosts D) (left left_now : Option (List ℕ))
    (old new : R) (file file_now : D) where
  abbrev pub Tries : Result Appended AppendFault → Type 0
  Tries result = recording.Tries keeper_of disk_of left left_now old new file file_now (recording.Records policy_name)
      RecordsEpoch result

  -- the line tells the fault that an entry would have, nothing was asked of the clock, and store and disk are as they
  -- were
  pub record RefusesPolicy (why : PolicyFault) (line : List ℕ) : Type 0 where
    pub line_is : line ≡ policy_line why
    pub holds : HoldsKey keeper_of disk_of new file_now
    pub fault : (r : Repository) → keeper_of.content new ≡ Some r → HasPolicyFault r why
    pub same : Untouched keeper_of disk_of old new file file_now
    pub unasked : left_now ≡ left

  -- the entry was added, and nothing is printed yet; or why not
  abbrev pub PolicyEnds : Result Appended NotApplied → Type 0
  PolicyEnds (Ok appended) = Tries (Ok appended)
  PolicyEnds (Err (none.Unread fault)) = recording.Refuses keeper_of disk_of left left_now old new file file_now fault
  PolicyEnds (Err (none.Refused why line)) = RefusesPolicy why line
  PolicyEnds (Err (none.Unappended fault)) = Tries (Err fault)

  -- what adding the entry and telling it came to
  abbrev pub AppliesTold : Option (List ℕ) → Option (List ℕ) → Result (Unit {0}) RecordFault → Type 0
  AppliesTold printed printed_now result = recording.AddsTold keeper_of disk_of left left_now old new file file_now
      (recording.Records policy_name) RecordsEpoch printed printed_now result

  -- an entry was added and told, which is an epoch; or why not, what is left of it, and what was printed
  abbrev pub ApplyEnds : Option (List ℕ) → Option (List ℕ) → Result (Unit {0}) ApplyFault → Type 0
  ApplyEnds printed printed_now (Ok done) = AppliesTold printed printed_now (Ok done)
  ApplyEnds printed printed_now (Err (Unrecorded fault)) = AppliesTold printed printed_now (Err fault)
  ApplyEnds printed printed_now (Err (Refused why line)) = RefusesPolicy why line × (printed_now ≡ printed)
