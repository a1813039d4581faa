-- Why no approval is kept, and how that is told.
use Rattle.std.proofs.Common.{◌≡◌, ℕ, List, ap, refl, subst, sym}
use Rattle.std.specs.Prelude.{Option, Some, Result, Err}
use Rattle.git_object.specs.Repository.{Repository}
use Rattle.keeper_api.proofs.Coming.{as_before_then}
use Rattle.keeper_api.specs.Undisturbed.{Undisturbed}
use Rattle.keeper_api.specs.declared.keepers.Keeper as keeper
use Rattle.edge_io.specs.Disk.{IsKept}
use Rattle.edge_io.specs.declared.disks.Disk as disk
use Rattle.leaf_journal.specs.Signing.{IsLoaded, Signing}
use Rattle.rsl_chain.specs.Logs.{IsLogOf, IsUnbroken}
use Rattle.rsl_chain.specs.declared.log_faults.LogFault.{LogFault}
use Rattle.rsl_chain.specs.declared.log_faults.LogFault.TheVariants as log
use Rattle.dsse_envelope.specs.declared.envelope.Envelope.{Envelope}
use Rattle.log_appending.specs.Opening.{IsAnyLength, WhyUnread, log_fault, unread_disk, unread_keeper}
use Rattle.log_appending.specs.Recording as recording
use Rattle.log_appending.specs.Untouched.{Untouched}
use Rattle.log_appending.specs.declared.appending.AppendFault.{AppendFault}
use Rattle.log_appending.specs.declared.opening.ReadingFault.{ReadingFault}
use Rattle.log_appending.specs.declared.telling.RecordFault.{RecordFault}
use Rattle.log_appending.specs.declared.telling.RecordFault.TheVariants.{Unread, BreakUntold, Unappended, SinkFailed}
use Rattle.commands_approve.specs.Approving.{ApproveEnds, KeptEnds, TellsRefusal, Tries, clock_failed, disk_failed, keeper_failed, no_clock, no_disk, no_keeper, not_kept}
use Rattle.commands_approve.specs.Storing.{StoreEnds}
use Rattle.commands_approve.specs.Wanted.{HasRoom, IsFree, IsWanted, WhyNotWanted}
use Rattle.commands_approve.specs.declared.approving.ApproveFault.{ApproveFault}
use Rattle.commands_approve.specs.declared.approving.ApproveFault.TheVariants.{Unrecorded}
use Rattle.commands_approve.specs.declared.ends.Ends.{Ends}
use Rattle.commands_approve.specs.declared.ends.NotWanted.{NotWanted}
use Rattle.commands_approve.specs.declared.ends.NotWanted.TheVariants as want
use Rattle.commands_approve.specs.declared.keeping.NotApproved.{NotApproved}
use Rattle.commands_approve.specs.declared.keeping.NotApproved.TheVariants as none
use Rattle.commands_approve.proofs.Moved.{store_from, told_before}

any_length : (fault : LogFault) → IsAnyLength (log_fault fault)
any_length (log.Broken id) = tt
any_length log.Failed = tt
any_length log.Memory = tt

module _ {R D : Type 0} (keeper_of : keeper.Ghosts R) (disk_of : disk.Ghosts D) (name target : List ℕ) (left : Option (List ℕ)) (old opened mid : R) (file file_mid : D)
    (first : Undisturbed keeper_of old opened) (next : Undisturbed keeper_of opened mid) (read : IsKept (disk_of.seen file) (disk_of.seen file_mid) (disk_of.may_leave file) (disk_of.may_leave file_mid))
    (signing : Signing) (loaded : (bytes : List ℕ) → disk_of.seen file_mid ≡ Some bytes → IsLoaded bytes signing) (ids : List (List ℕ)) (is_log : (r : Repository) → keeper_of.content opened ≡ Some r → IsLogOf r ids) where
  still : Untouched keeper_of disk_of old mid file file_mid
  still = record { store = as_before_then keeper_of old opened mid first next; kept = read }

  unread : (fault : LogFault) → ((r : Repository) → keeper_of.content mid ≡ Some r → IsUnbroken fault) → WhyUnread keeper_of disk_of mid file_mid (log_fault fault)
  unread (log.Broken id) why = (λ bytes told. (signing.secret, (loaded bytes told).is), λ r told. absurd (why r told))
  unread log.Failed why = λ bytes told. (signing.secret, (loaded bytes told).is)
  unread log.Memory why = tt

  -- nothing was done
  pub declined : (why : NotWanted) (answer : NotApproved) → answer ≡ not_kept why → ((r : Repository) → keeper_of.content mid ≡ Some r → IsLogOf r ids → WhyNotWanted name target r ids signing.secret why)
      → KeptEnds keeper_of disk_of name target left left old mid file file_mid (Err answer)
  declined why answer is so = subst (λ (a : NotApproved). KeptEnds keeper_of disk_of name target left left old mid file file_mid (Err a)) (sym is) (by_why why so)
    where
      log_at : (r : Repository) → keeper_of.content mid ≡ Some r → IsLogOf r ids
      log_at r told = is_log r (next.content r told)

      by_why : (why : NotWanted) → ((r : Repository) → keeper_of.content mid ≡ Some r → IsLogOf r ids → WhyNotWanted name target r ids signing.secret why)
          → KeptEnds keeper_of disk_of name target left left old mid file file_mid (Err (not_kept why))
      by_why (want.Log fault) so = record { why = record { why = unread fault (λ r told. so r told (log_at r told)); same = still; unasked = refl }; any_length = any_length fault }
      by_why (want.Unreadable id) so = record { secret = signing.secret; is_key = λ bytes told. (loaded bytes told).is; why = λ r told. (ids, log_at r told, so r told (log_at r told)); same = still; unasked = refl }
      by_why want.Full so = record { secret = signing.secret; is_key = λ bytes told. (loaded bytes told).is; why = λ r told. (ids, log_at r told, so r told (log_at r told)); same = still; unasked = refl }
      by_why want.TooLong so = record { secret = signing.secret; is_key = λ bytes told. (loaded bytes told).is; why = λ r told. (ids, log_at r told, so r told (log_at r told)); same = still; unasked = refl }

  -- all was read, and then signing and keeping came to this
  pub tried : (left_now : Option (List ℕ)) (new : R) (file_now : D) (ends : Ends) (envelope : Envelope) (result : Result Ends AppendFault) → HasRoom signing.secret envelope
      → ((r : Repository) → keeper_of.content mid ≡ Some r → IsWanted r ids name target ends envelope) → ((r : Repository) → keeper_of.content mid ≡ Some r → IsFree r name ends) → StoreEnds keeper_of disk_of name ends envelope signing.secret mid new file_mid file_now left left_now result
      → Tries keeper_of disk_of name target left left_now old new file file_now result
  tried left_now new file_now ends envelope result room wanted free it = record {
    secret = signing.secret;
    ids = ids;
    ends = ends;
    envelope = envelope;
    room = room;
    read = λ now held.
        let was = told_before keeper_of disk_of name ends envelope signing.secret mid new file_mid file_now left left_now result it now held in
        let then = next.content was.0 was.1 in
        (was.0, first.content was.0 then, (is_log was.0 then, wanted was.0 was.1, free was.0 was.1));
    stores = store_from keeper_of disk_of name ends envelope signing.secret old mid new file file_mid file_now (as_before_then keeper_of old opened mid first next) read left left_now result it;
  }

-- ---- telling it

module _ {R D : Type 0} (keeper_of : keeper.Ghosts R) (disk_of : disk.Ghosts D) (name target : List ℕ) (left left_now : Option (List ℕ)) (old new : R) (file file_now : D) (printed printed_now : Option (List ℕ)) where
  unread_told : (fault : ReadingFault) (told : RecordFault) → KeptEnds keeper_of disk_of name target left left_now old new file file_now (Err (none.Unread fault)) → recording.TellsUnread printed printed_now fault told
      → ApproveEnds keeper_of disk_of name target left left_now old new file file_now printed printed_now (Err (Unrecorded told))
  unread_told fault (Unread same) kept (is, says) = (
    subst (λ (f : ReadingFault). KeptEnds keeper_of disk_of name target left left_now old new file file_now (Err (none.Unread f))) (sym is) kept,
    subst (λ (f : ReadingFault). recording.SaysUnread f printed printed_now) (sym is) says,
  )
  unread_told fault (BreakUntold id) kept (is, part) = (subst (λ (f : ReadingFault). KeptEnds keeper_of disk_of name target left left_now old new file file_now (Err (none.Unread f))) is kept, part)
  unread_told fault (Unappended other) kept tells = absurd tells
  unread_told fault SinkFailed kept tells = absurd tells

  pub refused_told : (why : NotApproved) (answer : ApproveFault) → KeptEnds keeper_of disk_of name target left left_now old new file file_now (Err why) → TellsRefusal printed printed_now why answer
      → ApproveEnds keeper_of disk_of name target left left_now old new file file_now printed printed_now (Err answer)
  refused_told (none.Unread fault) answer kept (told, is, tells) =
      subst (λ (a : ApproveFault). ApproveEnds keeper_of disk_of name target left left_now old new file file_now printed printed_now (Err a)) (sym is) (unread_told fault told kept tells)
  refused_told (none.Unreadable id) answer kept (is, quiet) = subst (λ (a : ApproveFault). ApproveEnds keeper_of disk_of name target left left_now old new file file_now printed printed_now (Err a)) (sym is) (kept, quiet)
  refused_told none.Full answer kept (is, quiet) = subst (λ (a : ApproveFault). ApproveEnds keeper_of disk_of name target left left_now old new file file_now printed printed_now (Err a)) (sym is) (kept, quiet)
  refused_told none.TooLong answer kept (is, quiet) = subst (λ (a : ApproveFault). ApproveEnds keeper_of disk_of name target left left_now old new file file_now printed printed_now (Err a)) (sym is) (kept, quiet)
  refused_told (none.Unappended fault) answer kept (is, quiet) = subst (λ (a : ApproveFault). ApproveEnds keeper_of disk_of name target left left_now old new file file_now printed printed_now (Err a)) (sym is) (kept, quiet)

module _ (printed printed_now : Option (List ℕ)) where
  keeper_unread : (fault : ReadingFault) (told : RecordFault) → recording.TellsUnread printed printed_now fault told → unread_keeper fault ≡ recording.keeper_failed told
  keeper_unread fault (Unread same) (is, says) = ap unread_keeper (sym is)
  keeper_unread fault (BreakUntold id) (is, part) = ap unread_keeper is
  keeper_unread fault (Unappended other) tells = absurd tells
  keeper_unread fault SinkFailed tells = absurd tells

  disk_unread : (fault : ReadingFault) (told : RecordFault) → recording.TellsUnread printed printed_now fault told → unread_disk fault ≡ recording.disk_failed told
  disk_unread fault (Unread same) (is, says) = ap unread_disk (sym is)
  disk_unread fault (BreakUntold id) (is, part) = ap unread_disk is
  disk_unread fault (Unappended other) tells = absurd tells
  disk_unread fault SinkFailed tells = absurd tells

  clock_unread : (fault : ReadingFault) (told : RecordFault) → recording.TellsUnread printed printed_now fault told → no_clock (none.Unread fault) ≡ recording.clock_failed told
  clock_unread fault (Unread same) tells = refl
  clock_unread fault (BreakUntold id) tells = refl
  clock_unread fault (Unappended other) tells = absurd tells
  clock_unread fault SinkFailed tells = absurd tells

  pub keeper_told : (why : NotApproved) (answer : ApproveFault) → TellsRefusal printed printed_now why answer → no_keeper why ≡ keeper_failed answer
  keeper_told (none.Unread fault) answer (told, is, tells) = subst (λ (a : ApproveFault). unread_keeper fault ≡ keeper_failed a) (sym is) (keeper_unread fault told tells)
  keeper_told (none.Unreadable id) answer (is, quiet) = ap keeper_failed (sym is)
  keeper_told none.Full answer (is, quiet) = ap keeper_failed (sym is)
  keeper_told none.TooLong answer (is, quiet) = ap keeper_failed (sym is)
  keeper_told (none.Unappended fault) answer (is, quiet) = ap keeper_failed (sym is)

  pub disk_told : (why : NotApproved) (answer : ApproveFault) → TellsRefusal printed printed_now why answer → no_disk why ≡ disk_failed answer
  disk_told (none.Unread fault) answer (told, is, tells) = subst (λ (a : ApproveFault). unread_disk fault ≡ disk_failed a) (sym is) (disk_unread fault told tells)
  disk_told (none.Unreadable id) answer (is, quiet) = ap disk_failed (sym is)
  disk_told none.Full answer (is, quiet) = ap disk_failed (sym is)
  disk_told none.TooLong answer (is, quiet) = ap disk_failed (sym is)
  disk_told (none.Unappended fault) answer (is, quiet) = ap disk_failed (sym is)

  pub clock_told : (why : NotApproved) (answer : ApproveFault) → TellsRefusal printed printed_now why answer → no_clock why ≡ clock_failed answer
  clock_told (none.Unread fault) answer (told, is, tells) = subst (λ (a : ApproveFault). no_clock (none.Unread fault) ≡ clock_failed a) (sym is) (clock_unread fault told tells)
  clock_told (none.Unreadable id) answer (is, quiet) = ap clock_failed (sym is)
  clock_told none.Full answer (is, quiet) = ap clock_failed (sym is)
  clock_told none.TooLong answer (is, quiet) = ap clock_failed (sym is)
  clock_told (none.Unappended fault) answer (is, quiet) = ap clock_failed (sym is)
