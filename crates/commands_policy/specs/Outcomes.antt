-- How the commands end the program, what they come to where store and disk tell what they hold, and the laws of them.
use Rattle.std.specs.Prelude.{◌≡◌, ◌⊎◌, ℕ, List, Option, Some, None, Result, Ok, Err}
use Rattle.git_object.specs.Repository.{Repository, value_of}
use Rattle.keeper_api.specs.declared.keepers.Keeper as keeper
use Rattle.edge_io.specs.declared.disks.Disk as disk
use Rattle.git_object.specs.References.{policy_name}
use Rattle.lms_keys.specs.HssSecret.{Secret}
use Rattle.leaf_journal.specs.KeyFile.{IsKeyFile}
use Rattle.rsl_chain.specs.Logs.{IsBreakOf, IsLogOf}
use Rattle.worlds.specs.Endings.{IsStopped}
use Rattle.worlds.specs.declared.ending.Ending.{Ending}
use Rattle.worlds.specs.declared.ending.Ending.TheVariants as ending
use Rattle.worlds.specs.declared.ending.Refusal.TheVariants as refusal
use Rattle.commands_log.specs.declared.faults.LogCommandFault.{LogCommandFault}
use Rattle.commands_log.specs.declared.faults.LogCommandFault.TheVariants as log
use Rattle.log_appending.specs.Outcomes.{AppendComes, IsReady, ReadingComes, record_ending}
use Rattle.log_appending.specs.declared.telling.RecordFault.{RecordFault}
use Rattle.log_appending.specs.declared.telling.RecordFault.TheVariants.{Unread, BreakUntold, Unappended, SinkFailed}
use Rattle.rule_delegations.specs.Reached.{Name}
use Rattle.commands_policy.specs.Applying.{ApplyEnds, HasEpochFault, HasPolicyFault, policy_line}
use Rattle.commands_policy.specs.Explaining.{ExplainEnds, explain_ending}
use Rattle.commands_policy.specs.declared.applying.ApplyFault.{ApplyFault}
use Rattle.commands_policy.specs.declared.applying.ApplyFault.TheVariants.{Unrecorded, Refused}

-- ---- how the program ends
abbrev pub apply_ending : Result (Unit {0}) ApplyFault → Ending
apply_ending (Ok done) = ending.Done
apply_ending (Err (Unrecorded fault)) = record_ending (Err fault)
apply_ending (Err (Refused why line)) = ending.Refused (refusal.Policy line)

-- ---- what the commands come to
-- with the value of the policy's reference an entry is an epoch
abbrev pub OpensEpoch : Repository → Type 0
OpensEpoch was = HasEpochFault was (value_of was policy_name) None

abbrev pub UnrecordedComes : List ℕ → Repository → RecordFault → Type 0
UnrecordedComes file was (Unread fault) = ReadingComes file was fault
UnrecordedComes file was (BreakUntold id) = ⊥
UnrecordedComes file was (Unappended fault) = AppendComes file was fault × OpensEpoch was
UnrecordedComes file was SinkFailed = ⊥

-- what `policy-apply` comes to
abbrev pub ApplyComes : List ℕ → Repository → Result (Unit {0}) ApplyFault → Type 0
ApplyComes file was (Ok done) = IsReady file was × OpensEpoch was
ApplyComes file was (Err (Unrecorded fault)) = UnrecordedComes file was fault
ApplyComes file was (Err (Refused why line)) = (line ≡ policy_line why) × HasPolicyFault was why
    × ((secret : Secret) × IsKeyFile file secret)

-- what `explain` comes to
abbrev pub ExplainComes : Repository → Result (Unit {0}) LogCommandFault → Type 0
ExplainComes was (Ok done) = (ids : List (List ℕ)) × IsLogOf was ids
ExplainComes was (Err (log.Broken id)) = IsBreakOf was id
ExplainComes was (Err log.KeeperFailed) = ⊥
ExplainComes was (Err log.SinkFailed) = ⊥
ExplainComes was (Err log.Memory) = ⊥

-- ---- the laws
-- each comes to one outcome at most
pub record OneOfPolicy : Type 0 where
  pub applied : (file : List ℕ) (was : Repository) (a b : Result (Unit {0}) ApplyFault) → ApplyComes file was a
      → ApplyComes file was b → a ≡ b
  pub explained : (was : Repository) (a b : Result (Unit {0}) LogCommandFault) → ExplainComes was a → ExplainComes was b
      → a ≡ b

-- what ended is what the command comes to, or it stopped
pub record TellsOfPolicy {R D : Type 0} (keeper_of : keeper.Ghosts R) (disk_of : disk.Ghosts D) : Type 0 where
  pub applied : (left left_now : Option (List ℕ)) (was now : Repository) (file file_now : List ℕ) (old new : R)
      (key key_now : D) (printed printed_now : Option (List ℕ)) (outcome : Result (Unit {0}) ApplyFault)
      → keeper_of.content old ≡ Some was → keeper_of.content new ≡ Some now → disk_of.seen key ≡ Some file
      → disk_of.seen key_now ≡ Some file_now
      → ApplyEnds keeper_of disk_of left left_now old new key key_now printed printed_now outcome
      → ApplyComes file was outcome ⊎ IsStopped (apply_ending outcome)
  pub explained : (was : Repository) (printed printed_now : Option (List ℕ)) (name : Name)
      (outcome : Result (Unit {0}) LogCommandFault)
      → ExplainEnds (Some was) printed printed_now name outcome → ExplainComes was outcome
      ⊎ IsStopped (explain_ending outcome)
