-- What the commands come to where store and disk tell what they hold.
use Rattle.std.proofs.Common.{◌≡◌, ◌⊎◌, ℕ, List, ⊎_elim, inl, inr, refl, subst}
use Rattle.std.specs.Prelude.{Option, Some, Result, Ok, Err}
use Rattle.git_object.specs.Repository.{Repository}
use Rattle.keeper_api.specs.declared.keepers.Keeper as keeper
use Rattle.edge_io.specs.declared.disks.Disk as disk
use Rattle.git_object.specs.References.{policy_name}
use Rattle.leaf_journal.specs.KeyFile.{IsKeyFile}
use Rattle.worlds.specs.Endings.{IsStopped}
use Rattle.commands_log.specs.declared.faults.LogCommandFault.{LogCommandFault}
use Rattle.commands_log.specs.declared.faults.LogCommandFault.TheVariants as log
use Rattle.log_appending.proofs.ToldOutcome as recording
use Rattle.log_appending.specs.Recording.{Records, Tries}
use Rattle.log_appending.specs.declared.appending.AppendFault.{AppendFault}
use Rattle.log_appending.specs.declared.appending.Appended.{Appended}
use Rattle.log_appending.specs.declared.telling.RecordFault.TheVariants.{Unread, BreakUntold, Unappended, SinkFailed}
use Rattle.rule_delegations.specs.Reached.{Name}
use Rattle.commands_policy.specs.Applying.{ApplyEnds, HasPolicyFault, RecordsEpoch}
use Rattle.commands_policy.specs.Explaining.{ExplainEnds, explain_ending}
use Rattle.commands_policy.specs.Outcomes.{ApplyComes, ExplainComes, OpensEpoch, TellsOfPolicy, apply_ending}
use Rattle.commands_policy.specs.declared.applying.ApplyFault.{ApplyFault}
use Rattle.commands_policy.specs.declared.applying.ApplyFault.TheVariants.{Unrecorded, Refused}

same_some : {X : Type 0} (x y : X) (told : Option X) → told ≡ Some x → told ≡ Some y → x ≡ y
same_some x y told e f = cc

module _ {R D : Type 0} (keeper_of : keeper.Ghosts R) (disk_of : disk.Ghosts D) (left left_now : Option (List ℕ)) (was now : Repository) (file file_now : List ℕ) (old new : R) (key key_now : D)
    (held : keeper_of.content old ≡ Some was) (holds : keeper_of.content new ≡ Some now) (seen : disk_of.seen key ≡ Some file) (sees : disk_of.seen key_now ≡ Some file_now) where
  -- the entry that was tried is an epoch in the repository
  opens : (result : Result Appended AppendFault) → Tries keeper_of disk_of left left_now old new key key_now (Records policy_name) RecordsEpoch result → OpensEpoch was
  opens result tries =
      let found = tries.read now holds in
      let epoch : RecordsEpoch tries.ids tries.body found.0 = found.2.so in
      subst OpensEpoch (same_some found.0 was (keeper_of.content old) found.1 held) epoch.epoch

  told : (printed printed_now : Option (List ℕ)) (outcome : Result (Unit {0}) ApplyFault) → ApplyEnds keeper_of disk_of left left_now old new key key_now printed printed_now outcome → ApplyComes file was outcome ⊎ IsStopped (apply_ending outcome)
  told printed printed_now (Ok done) means =
      ⊎_elim (λ ready. inl (ready, opens (Ok means.0) means.1)) (λ stopped. inr stopped)
      (recording.told keeper_of disk_of (Records policy_name) RecordsEpoch left left_now was now file file_now old new key key_now held holds seen sees printed printed_now (Ok done) means)
  told printed printed_now (Err (Unrecorded (Unread fault))) means =
      recording.told keeper_of disk_of (Records policy_name) RecordsEpoch left left_now was now file file_now old new key key_now held holds seen sees printed printed_now (Err (Unread fault)) means
  told printed printed_now (Err (Unrecorded (BreakUntold id))) means = inr tt
  told printed printed_now (Err (Unrecorded (Unappended fault))) means =
      ⊎_elim (λ comes. inl (comes, opens (Err fault) means.0)) (λ stopped. inr stopped)
      (recording.told keeper_of disk_of (Records policy_name) RecordsEpoch left left_now was now file file_now old new key key_now held holds seen sees printed printed_now (Err (Unappended fault)) means)
  told printed printed_now (Err (Unrecorded SinkFailed)) means = inr tt
  told printed printed_now (Err (Refused why line)) means =
      let refuses = means.0 in
      let kept = same_some file_now file (disk_of.seen key) (refuses.same.kept.same file_now sees) seen in
      let same = same_some now was (keeper_of.content old) (refuses.same.store.content now holds) held in
      let opened = refuses.holds file_now sees in
      inl (
        refuses.line_is,
        subst (λ (r : Repository). HasPolicyFault r why) same (refuses.fault now holds),
        (opened.0, subst (λ (f : List ℕ). IsKeyFile f opened.0) kept opened.1),
      )

told_text : (was : Repository) (printed printed_now : Option (List ℕ)) (name : Name) (outcome : Result (Unit {0}) LogCommandFault) → ExplainEnds (Some was) printed printed_now name outcome → ExplainComes was outcome ⊎ IsStopped (explain_ending outcome)
told_text was printed printed_now name (Ok done) ends =
    let last = ends.2.told was refl in
    let history = last.history in
    inl (history.ids, history.log)
told_text was printed printed_now name (Err (log.Broken id)) ends = inl (ends.1 was refl)
told_text was printed printed_now name (Err log.KeeperFailed) ends = inr tt
told_text was printed printed_now name (Err log.SinkFailed) ends = inr tt
told_text was printed printed_now name (Err log.Memory) ends = inr tt

pub tells_of_policy : {R D : Type 0} (keeper_of : keeper.Ghosts R) (disk_of : disk.Ghosts D) → TellsOfPolicy keeper_of disk_of
tells_of_policy keeper_of disk_of = record {
  applied = λ left left_now was now file file_now old new key key_now printed printed_now outcome held holds seen sees.
      told keeper_of disk_of left left_now was now file file_now old new key key_now held holds seen sees printed printed_now outcome;
  explained = told_text;
}
