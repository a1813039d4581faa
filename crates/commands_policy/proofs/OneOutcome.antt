-- The commands come to one outcome at most.
use Rattle.std.proofs.Common.{◌≡◌, ℕ, List, ap, refl, sym, ◌∙◌}
use Rattle.std.specs.Prelude.{Option, Some, None, Result, Ok, Err}
use Rattle.std.specs.FinMap.{get}
use Rattle.git_object.specs.Names.{log_name}
use Rattle.git_object.specs.Repository.{Repository, value_of}
use Rattle.git_object.specs.References.{policy_name}
use Rattle.rsl_chain.specs.declared.entries.Entry.{Entry}
use Rattle.rsl_chain.specs.Chain.{NeverBoth, OneBreak, OneLog}
use Rattle.rsl_chain.specs.Logs.{heads_of}
use Rattle.commands_log.proofs.OneHistory.{same_history}
use Rattle.commands_log.specs.declared.faults.LogCommandFault.{LogCommandFault}
use Rattle.commands_log.specs.declared.faults.LogCommandFault.TheVariants as log
use Rattle.leaf_journal.proofs.OneKeyFile.{not_both}
use Rattle.log_appending.proofs.OneOutcome.{not_full, same_record}
use Rattle.log_appending.specs.Outcomes.{RecordComes}
use Rattle.log_appending.specs.declared.opening.ReadingFault.TheVariants as reading
use Rattle.log_appending.specs.declared.telling.RecordFault.{RecordFault}
use Rattle.log_appending.specs.declared.telling.RecordFault.TheVariants.{Unread, BreakUntold, Unappended, SinkFailed}
use Rattle.policy_epochs.specs.declared.faults.PolicyFault.{PolicyFault}
use Rattle.policy_reading.specs.InForce.{epoch_fault}
use Rattle.commands_policy.specs.Applying.{HasEpochFault, policy_line}
use Rattle.commands_policy.specs.Outcomes.{ApplyComes, ExplainComes, UnrecordedComes}
use Rattle.commands_policy.specs.declared.applying.ApplyFault.{ApplyFault}
use Rattle.commands_policy.specs.declared.applying.ApplyFault.TheVariants.{Unrecorded, Refused}

-- a refusal of recording is one of `record`
as_record : (file : List ℕ) (was : Repository) (fault : RecordFault) → UnrecordedComes file was fault → RecordComes file was (Err fault)
as_record file was (Unread fault) comes = comes
as_record file was (BreakUntold id) comes = comes
as_record file was (Unappended fault) comes = comes.0
as_record file was SinkFailed comes = comes

module _ (one : OneLog) (once : OneBreak) (apart : NeverBoth) (was : Repository) where
  -- an entry has one fault behind a log
  one_fault : (target : List ℕ) (a b : Option PolicyFault) → HasEpochFault was target a → HasEpochFault was target b → a ≡ b
  one_fault target a b is other =
      is.is ∙ ap (λ (entries : List Entry). epoch_fault None was entries target) (same_history one once apart was is.entries other.entries is.history other.history) ∙ sym other.is

  none_or_some : (target : List ℕ) (why : PolicyFault) → HasEpochFault was target None → HasEpochFault was target (Some why) → ⊥
  none_or_some target why is other = let same = one_fault target None (Some why) is other in cc same

  module _ (file : List ℕ) where
    -- a policy that is refused is no refusal of recording
    no_recording : (fault : RecordFault) (why : PolicyFault) (line : List ℕ) → UnrecordedComes file was fault → ApplyComes file was (Err (Refused why line)) → ⊥
    no_recording (Unread reading.KeyFile) why line is other = not_both file is other.2.0 other.2.1
    no_recording (Unread (reading.LogBroken id)) why line is other = let policy = other.1 in apart (heads_of was) (get was.refs log_name) policy.ids id policy.log is.breaks
    no_recording (Unread reading.TooLarge) why line is other = let policy = other.1 in not_full one once apart file was policy.ids is.ids policy.log is.log policy.short is.full
    no_recording (Unread reading.DiskFailed) why line is other = is
    no_recording (Unread reading.KeeperFailed) why line is other = is
    no_recording (Unread reading.Memory) why line is other = is
    no_recording (BreakUntold id) why line is other = is
    no_recording (Unappended fault) why line is other = let policy = other.1 in none_or_some (value_of was policy_name) why is.1 policy.fault
    no_recording SinkFailed why line is other = is

    pub same_applied : (a b : Result (Unit {0}) ApplyFault) → ApplyComes file was a → ApplyComes file was b → a ≡ b
    same_applied (Ok done) (Ok also) is other = refl
    same_applied (Ok done) (Err (Unrecorded fault)) is other = let same = same_record one once apart file was (Ok done) (Err fault) is.0 (as_record file was fault other) in cc same
    same_applied (Err (Unrecorded fault)) (Ok done) is other = let same = same_record one once apart file was (Err fault) (Ok done) (as_record file was fault is) other.0 in cc same
    same_applied (Err (Unrecorded fault)) (Err (Unrecorded found)) is other =
        let same = same_record one once apart file was (Err fault) (Err found) (as_record file was fault is) (as_record file was found other) in
        ap (λ (f : RecordFault). Err (Unrecorded f)) (cc same)
    same_applied (Ok done) (Err (Refused why line)) is other = let policy = other.1 in absurd (none_or_some (value_of was policy_name) why is.1 policy.fault)
    same_applied (Err (Refused why line)) (Ok done) is other = let policy = is.1 in absurd (none_or_some (value_of was policy_name) why other.1 policy.fault)
    same_applied (Err (Unrecorded fault)) (Err (Refused why line)) is other = absurd (no_recording fault why line is other)
    same_applied (Err (Refused why line)) (Err (Unrecorded fault)) is other = absurd (no_recording fault why line other is)
    same_applied (Err (Refused why line)) (Err (Refused found told)) is other =
        let policy = is.1 in
        let policy_too = other.1 in
        let faults = one_fault (value_of was policy_name) (Some why) (Some found) policy.fault policy_too.fault in
        let whys : why ≡ found = cc faults in
        let lines : line ≡ told = is.0 ∙ ap policy_line whys ∙ sym other.0 in
        λ i. Err (Refused (whys i) (lines i))

  pub same_explained : (a b : Result (Unit {0}) LogCommandFault) → ExplainComes was a → ExplainComes was b → a ≡ b
  same_explained (Ok done) (Ok also) is other = refl
  same_explained (Ok done) (Err (log.Broken id)) is other = absurd (apart (heads_of was) (get was.refs log_name) is.0 id is.1 other)
  same_explained (Err (log.Broken id)) (Ok done) is other = absurd (apart (heads_of was) (get was.refs log_name) other.0 id other.1 is)
  same_explained (Err (log.Broken id)) (Err (log.Broken found)) is other = ap (λ (i : List ℕ). Err (log.Broken i)) (once (heads_of was) (get was.refs log_name) id found is other)
  same_explained (Err log.KeeperFailed) b is other = absurd is
  same_explained (Err log.SinkFailed) b is other = absurd is
  same_explained (Err log.Memory) b is other = absurd is
  same_explained a (Err log.KeeperFailed) is other = absurd other
  same_explained a (Err log.SinkFailed) is other = absurd other
  same_explained a (Err log.Memory) is other = absurd other
