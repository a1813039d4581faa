-- What `record` and `annotate` come to where store and disk tell what they hold.
use Rattle.std.proofs.Common.{◌≡◌, ◌⊎◌, ℕ, List, inl, inr, subst}
use Rattle.std.specs.Prelude.{Option, Some, Result, Ok, Err}
use Rattle.git_object.specs.Repository.{Repository}
use Rattle.keeper_api.specs.declared.keepers.Keeper as keeper
use Rattle.edge_io.specs.declared.disks.Disk as disk
use Rattle.rsl_chain.specs.declared.entries.EntryBody.{EntryBody}
use Rattle.leaf_journal.specs.KeyFile.{IsKeyFile}
use Rattle.leaf_journal.specs.Files.{IsLeastUnused, IsNoKeyFile, IsUsedUp}
use Rattle.rsl_chain.specs.Logs.{IsBreakOf, IsLogOf}
use Rattle.worlds.specs.Endings.{IsStopped}
use Rattle.log_appending.specs.Outcomes.{RecordComes, TellsOfLog, record_ending}
use Rattle.log_appending.specs.Recording.{AddsTold, Annotates, AnyNoted, Records, RecordsValue, Tries}
use Rattle.log_appending.specs.declared.appending.AppendFault.{AppendFault}
use Rattle.log_appending.specs.declared.appending.AppendFault.TheVariants as append
use Rattle.log_appending.specs.declared.appending.Appended.{Appended}
use Rattle.log_appending.specs.declared.opening.ReadingFault.TheVariants as reading
use Rattle.log_appending.specs.declared.telling.RecordFault.{RecordFault}
use Rattle.log_appending.specs.declared.telling.RecordFault.TheVariants.{Unread, BreakUntold, Unappended, SinkFailed}

same_some : {X : Type 0} (x y : X) (told : Option X) → told ≡ Some x → told ≡ Some y → x ≡ y
same_some x y told e f = cc

module _ {R D : Type 0} (keeper_of : keeper.Ghosts R) (disk_of : disk.Ghosts D) (Is : EntryBody → Type 0) (IsSo : List (List ℕ) → EntryBody → Repository → Type 0) (left left_now : Option (List ℕ)) (was now : Repository) (file file_now : List ℕ) (old new : R) (key key_now : D)
    (held : keeper_of.content old ≡ Some was) (holds : keeper_of.content new ≡ Some now) (seen : disk_of.seen key ≡ Some file) (sees : disk_of.seen key_now ≡ Some file_now) where
  -- the log that was read is that of the repository
  read_log : (result : Result Appended AppendFault) (tries : Tries keeper_of disk_of left left_now old new key key_now Is IsSo result) → IsLogOf was tries.ids
  read_log result tries =
      let found = tries.read now holds in
      subst (λ (r : Repository). IsLogOf r tries.ids) (same_some found.0 was (keeper_of.content old) found.1 held) found.2.log

  pub told : (printed printed_now : Option (List ℕ)) (outcome : Result (Unit {0}) RecordFault) → AddsTold keeper_of disk_of left left_now old new key key_now Is IsSo printed printed_now outcome → RecordComes file was outcome ⊎ IsStopped (record_ending outcome)
  told printed printed_now (Ok done) means =
      let tries = means.1 in
      let signs = tries.ends.0.is.signs.signs in
      let signed = signs.file file_now sees in
      inl (record {
        secret = tries.secret;
        leaf = signs.leaf;
        unused = subst (λ (f : List ℕ). IsLeastUnused f tries.secret signs.leaf) (same_some signed.0 file (disk_of.seen key) signed.1 seen) signed.2;
        ids = tries.ids;
        log = read_log (Ok means.0) tries;
        short = tries.short;
      })
  told printed printed_now (Err (Unread reading.KeyFile)) means =
      let kept = means.0.same.kept.same file_now sees in
      inl (subst IsNoKeyFile (same_some file_now file (disk_of.seen key) kept seen) (means.0.why file_now sees))
  told printed printed_now (Err (Unread reading.DiskFailed)) means = inr tt
  told printed printed_now (Err (Unread (reading.LogBroken id))) means =
      let kept = same_some file_now file (disk_of.seen key) (means.0.same.kept.same file_now sees) seen in
      let same = same_some now was (keeper_of.content old) (means.0.same.store.content now holds) held in
      let opened = means.0.why.0 file_now sees in
      inl (record {
        secret = opened.0;
        is = subst (λ (f : List ℕ). IsKeyFile f opened.0) kept opened.1;
        breaks = subst (λ (r : Repository). IsBreakOf r id) same (means.0.why.1 now holds);
      })
  told printed printed_now (Err (Unread reading.TooLarge)) means =
      let kept = same_some file_now file (disk_of.seen key) (means.0.same.kept.same file_now sees) seen in
      let same = same_some now was (keeper_of.content old) (means.0.same.store.content now holds) held in
      let opened = means.0.why.0 file_now sees in
      let full = means.0.why.1 now holds in
      inl (record {
        secret = opened.0;
        is = subst (λ (f : List ℕ). IsKeyFile f opened.0) kept opened.1;
        ids = full.0;
        log = subst (λ (r : Repository). IsLogOf r full.0) same full.1;
        full = full.2;
      })
  told printed printed_now (Err (Unread reading.KeeperFailed)) means = inr tt
  told printed printed_now (Err (Unread reading.Memory)) means = inr tt
  told printed printed_now (Err (BreakUntold id)) means = inr tt
  told printed printed_now (Err (Unappended append.ClockFailed)) means = inr tt
  told printed printed_now (Err (Unappended append.Exhausted)) means =
      let tries = means.0 in
      let refused = tries.ends.is in
      let kept = same_some file_now file (disk_of.seen key) (refused.0.kept.same file_now sees) seen in
      inl (record {
        secret = tries.secret;
        used_up = subst (λ (f : List ℕ). IsUsedUp f tries.secret) kept (refused.1 file_now sees);
        ids = tries.ids;
        log = read_log (Err append.Exhausted) tries;
        short = tries.short;
      })
  told printed printed_now (Err (Unappended append.DiskFailed)) means = inr tt
  told printed printed_now (Err (Unappended append.CommitFailed)) means = inr tt
  told printed printed_now (Err (Unappended append.Memory)) means = inr tt
  told printed printed_now (Err (Unappended append.MemoryAfter)) means = inr tt
  told printed printed_now (Err SinkFailed) means = inr tt

pub tells_of_log : {R D : Type 0} (keeper_of : keeper.Ghosts R) (disk_of : disk.Ghosts D) → TellsOfLog keeper_of disk_of
tells_of_log keeper_of disk_of = record {
  recorded = λ name left left_now was now file file_now old new key key_now printed printed_now outcome held holds seen sees.
      told keeper_of disk_of (Records name) (RecordsValue name) left left_now was now file file_now old new key key_now held holds seen sees printed printed_now outcome;
  annotated = λ noted skip message left left_now was now file file_now old new key key_now printed printed_now outcome held holds seen sees.
      told keeper_of disk_of (Annotates noted skip message) AnyNoted left left_now was now file file_now old new key key_now held holds seen sees printed printed_now outcome;
}
