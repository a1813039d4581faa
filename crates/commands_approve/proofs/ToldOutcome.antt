-- What `approve` comes to where store and disk tell what they hold.
use Rattle.std.proofs.Common.{◌≡◌, ◌⊎◌, ℕ, List, inl, inr, subst}
use Rattle.std.specs.Prelude.{Option, Some, Result, Ok, Err}
use Rattle.git_object.specs.Repository.{Repository}
use Rattle.keeper_api.specs.declared.keepers.Keeper as keeper
use Rattle.edge_io.specs.declared.disks.Disk as disk
use Rattle.lms_keys.specs.HssSecret.{Secret}
use Rattle.leaf_journal.specs.KeyFile.{IsKeyFile}
use Rattle.leaf_journal.specs.Files.{IsLeastUnused, IsNoKeyFile, IsUsedUp}
use Rattle.rsl_chain.specs.Logs.{IsBreakOf, IsLogOf}
use Rattle.worlds.specs.Endings.{IsStopped}
use Rattle.log_appending.specs.declared.appending.AppendFault.{AppendFault}
use Rattle.log_appending.specs.declared.appending.AppendFault.TheVariants as append
use Rattle.log_appending.specs.declared.opening.ReadingFault.TheVariants as reading
use Rattle.log_appending.specs.declared.telling.RecordFault.TheVariants.{Unread, BreakUntold, Unappended, SinkFailed}
use Rattle.commands_approve.specs.Approving.{ApproveEnds, Declines, Tries}
use Rattle.commands_approve.specs.Outcomes.{ApproveComes, BehindKey, BehindLog, IsOpen, TellsOfApprovals, approve_ending}
use Rattle.commands_approve.specs.declared.approving.ApproveFault.{ApproveFault}
use Rattle.commands_approve.specs.declared.approving.ApproveFault.TheVariants.{Unrecorded, Unreadable, Full, TooLong}
use Rattle.commands_approve.specs.declared.ends.Ends.{Ends}

same_some : {X : Type 0} (x y : X) (told : Option X) → told ≡ Some x → told ≡ Some y → x ≡ y
same_some x y told e f = cc

module _ {R D : Type 0} (keeper_of : keeper.Ghosts R) (disk_of : disk.Ghosts D) (name target : List ℕ) (left left_now : Option (List ℕ)) (was now : Repository) (file file_now : List ℕ) (old new : R) (key key_now : D)
    (held : keeper_of.content old ≡ Some was) (holds : keeper_of.content new ≡ Some now) (seen : disk_of.seen key ≡ Some file) (sees : disk_of.seen key_now ≡ Some file_now) where
  -- what was read was read of the repository
  opened : (result : Result Ends AppendFault) (tries : Tries keeper_of disk_of name target left left_now old new key key_now result) → BehindLog name target file was tries.secret (IsOpen name target file was)
  opened result tries =
      let found = tries.read now holds in
      subst (λ (r : Repository). BehindLog name target file r tries.secret (IsOpen name target file r)) (same_some found.0 was (keeper_of.content old) found.1 held)
      (record { ids = tries.ids; log = found.2.0; why = record { ends = tries.ends; envelope = tries.envelope; wanted = found.2.1; so = (tries.room, found.2.2) } })

  declined : (Why : Repository → List (List ℕ) → Secret → Type 0) → Declines keeper_of disk_of name target left left_now old new key key_now Why → BehindKey name target file was Why
  declined Why declines =
      let kept = same_some file_now file (disk_of.seen key) (declines.same.kept.same file_now sees) seen in
      let same = same_some now was (keeper_of.content old) (declines.same.store.content now holds) held in
      let found = declines.why now holds in
      record {
        secret = declines.secret;
        is = subst (λ (f : List ℕ). IsKeyFile f declines.secret) kept (declines.is_key file_now sees);
        behind = record { ids = found.0; log = subst (λ (r : Repository). IsLogOf r found.0) same found.1; why = subst (λ (r : Repository). Why r found.0 declines.secret) same found.2 };
      }

  told : (printed printed_now : Option (List ℕ)) (outcome : Result (Unit {0}) ApproveFault) → ApproveEnds keeper_of disk_of name target left left_now old new key key_now printed printed_now outcome
      → ApproveComes name target file was outcome ⊎ IsStopped (approve_ending outcome)
  told printed printed_now (Ok done) means =
      let tries = means.1 in
      let signs = tries.stores.is.0.signs in
      let signed = signs.file file_now sees in
      inl (record {
        secret = tries.secret;
        leaf = signs.leaf;
        unused = subst (λ (f : List ℕ). IsLeastUnused f tries.secret signs.leaf) (same_some signed.0 file (disk_of.seen key) signed.1 seen) signed.2;
        open_ = opened (Ok means.0) tries;
      })
  told printed printed_now (Err (Unrecorded (Unread reading.KeyFile))) means =
      let refuses = means.0.why in
      let kept = refuses.same.kept.same file_now sees in
      inl (subst IsNoKeyFile (same_some file_now file (disk_of.seen key) kept seen) (refuses.why file_now sees))
  told printed printed_now (Err (Unrecorded (Unread reading.DiskFailed))) means = inr tt
  told printed printed_now (Err (Unrecorded (Unread (reading.LogBroken id)))) means =
      let refuses = means.0.why in
      let kept = same_some file_now file (disk_of.seen key) (refuses.same.kept.same file_now sees) seen in
      let same = same_some now was (keeper_of.content old) (refuses.same.store.content now holds) held in
      let key_there = refuses.why.0 file_now sees in
      inl (record {
        secret = key_there.0;
        is = subst (λ (f : List ℕ). IsKeyFile f key_there.0) kept key_there.1;
        breaks = subst (λ (r : Repository). IsBreakOf r id) same (refuses.why.1 now holds);
      })
  told printed printed_now (Err (Unrecorded (Unread reading.TooLarge))) means = absurd means.0.any_length
  told printed printed_now (Err (Unrecorded (Unread reading.KeeperFailed))) means = inr tt
  told printed printed_now (Err (Unrecorded (Unread reading.Memory))) means = inr tt
  told printed printed_now (Err (Unrecorded (BreakUntold id))) means = inr tt
  told printed printed_now (Err (Unrecorded (Unappended append.ClockFailed))) means = inr tt
  told printed printed_now (Err (Unrecorded (Unappended append.Exhausted))) means =
      let tries = means.0 in
      let refused = tries.stores.is in
      let kept = same_some file_now file (disk_of.seen key) (refused.0.kept.same file_now sees) seen in
      inl (record { secret = tries.secret; used_up = subst (λ (f : List ℕ). IsUsedUp f tries.secret) kept (refused.1 file_now sees); open_ = opened (Err append.Exhausted) tries })
  told printed printed_now (Err (Unrecorded (Unappended append.DiskFailed))) means = inr tt
  told printed printed_now (Err (Unrecorded (Unappended append.CommitFailed))) means = inr tt
  told printed printed_now (Err (Unrecorded (Unappended append.Memory))) means = inr tt
  told printed printed_now (Err (Unrecorded (Unappended append.MemoryAfter))) means = inr tt
  told printed printed_now (Err (Unrecorded SinkFailed)) means = inr tt
  told printed printed_now (Err (Unreadable id)) means = inl (declined _ means.0)
  told printed printed_now (Err Full) means = inl (declined _ means.0)
  told printed printed_now (Err TooLong) means = inl (declined _ means.0)

pub tells_of_approvals : {R D : Type 0} (keeper_of : keeper.Ghosts R) (disk_of : disk.Ghosts D) → TellsOfApprovals keeper_of disk_of
tells_of_approvals keeper_of disk_of = record {
  approved = λ name target left left_now was now file file_now old new key key_now printed printed_now outcome held holds seen sees.
      told keeper_of disk_of name target left left_now was now file file_now old new key key_now held holds seen sees printed printed_now outcome;
}
