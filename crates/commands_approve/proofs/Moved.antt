-- Reading, then signing, then the commit: what came of a step is what came of the whole.
use Rattle.std.proofs.Common.{◌≡◌, ℕ, List}
use Rattle.std.specs.Prelude.{Option, Some, Result, Ok, Err}
use Rattle.git_object.specs.Repository.{Repository, value_of}
use Rattle.keeper_api.proofs.Coming.{as_before, as_before_then}
use Rattle.keeper_api.specs.Undisturbed.{Undisturbed}
use Rattle.keeper_api.specs.declared.keepers.Keeper as keeper
use Rattle.edge_io.specs.Disk.{IsKept}
use Rattle.edge_io.specs.declared.disks.Disk as disk
use Rattle.lms_keys.specs.HssSecret.{Secret}
use Rattle.leaf_journal.proofs.Steps.{signs_from, tears_from}
use Rattle.keeper_api.proofs.Committed.{gains_from, may_gain_from}
use Rattle.keeper_api.specs.Committing.{Gains, MayGain}
use Rattle.dsse_envelope.specs.declared.envelope.Envelope.{Envelope}
use Rattle.git_object.specs.References.{attestations_name}
use Rattle.approvals.specs.Sites.{IsSiteOf}
use Rattle.approvals.specs.declared.attesting.Attested.{Attested}
use Rattle.approvals.specs.declared.sites.Site.{Site}
use Rattle.log_appending.proofs.Moved.{kept_same, kept_twice, used_up}
use Rattle.log_appending.specs.Untouched.{Untouched}
use Rattle.log_appending.specs.declared.appending.AppendFault.{AppendFault}
use Rattle.log_appending.specs.declared.appending.AppendFault.TheVariants.{ClockFailed, Exhausted, DiskFailed, CommitFailed, Memory, MemoryAfter}
use Rattle.commands_approve.specs.Storing.{Keeps, RefusesKeeping, SignEnds, SignsChange, StoreEnds, Timed}
use Rattle.commands_approve.specs.declared.ends.Ends.{Ends}

module _ {R D : Type 0} (keeper_of : keeper.Ghosts R) (disk_of : disk.Ghosts D) (name : List ℕ) (ends : Ends) (envelope : Envelope) (secret : Secret) where
  -- why an approval was not signed is why it is not kept
  pub unsigned : (store : R) (file file_now : D) (seconds : ℕ) (site : Site) (fault : AppendFault) → SignEnds name ends envelope secret seconds disk_of file file_now site (Err fault)
      → RefusesKeeping keeper_of disk_of name ends envelope secret store store file file_now fault seconds
  unsigned store file file_now seconds site ClockFailed none = absurd none
  unsigned store file file_now seconds site Exhausted none = (record { store = as_before keeper_of store; kept = kept_same disk_of file file_now none.same }, used_up disk_of secret file file_now none)
  unsigned store file file_now seconds site DiskFailed torn = (as_before keeper_of store, torn)
  unsigned store file file_now seconds site CommitFailed none = absurd none
  unsigned store file file_now seconds site Memory still = record { store = as_before keeper_of store; kept = kept_same disk_of file file_now still }
  unsigned store file file_now seconds site MemoryAfter lost = (as_before keeper_of store, lost)

  module _ (old new : R) (file file_now : D) (seconds : ℕ) (site : Site) (a : Attested)
      (is_site : (r : Repository) → keeper_of.content old ≡ Some r → IsSiteOf r (value_of r attestations_name) name ends.from ends.tree site) (signs : SignsChange name ends envelope secret seconds disk_of file file_now site a) where
    pub kept : Gains keeper_of old new a.change → Keeps keeper_of disk_of name ends envelope secret old new file file_now (λ a. Gains keeper_of old new a.change) seconds
    kept gains = record {
      signature = signs.signature;
      signs = signs.signs;
      attested = a;
      attests = signs.attests;
      is = λ now held. (let was = gains.held now held in (was.0, was.1, signs.at was.0 (is_site was.0 was.1)));
      held = gains;
    }

    pub may_be_kept : MayGain keeper_of old new a.change → Keeps keeper_of disk_of name ends envelope secret old new file file_now (λ a. MayGain keeper_of old new a.change) seconds
    may_be_kept gains = record {
      signature = signs.signature;
      signs = signs.signs;
      attested = a;
      attests = signs.attests;
      is = λ now held. (let was = gains.held now held in (was.0, was.1, signs.at was.0 (is_site was.0 was.1)));
      held = gains;
    }

  -- ---- from before the reading on
  module _ (old mid new : R) (file file_mid file_now : D) (store : Undisturbed keeper_of old mid) (read : IsKept (disk_of.seen file) (disk_of.seen file_mid) (disk_of.may_leave file) (disk_of.may_leave file_mid)) where
    untouched : Untouched keeper_of disk_of mid new file_mid file_now → Untouched keeper_of disk_of old new file file_now
    untouched still = record { store = as_before_then keeper_of old mid new store still.store; kept = kept_twice disk_of file file_mid file_now read still.kept }

    keeps : (P Q : Attested → Type 0) → ((a : Attested) → P a → Q a) → (seconds : ℕ) → Keeps keeper_of disk_of name ends envelope secret mid new file_mid file_now P seconds
        → Keeps keeper_of disk_of name ends envelope secret old new file file_now Q seconds
    keeps P Q more seconds it = record {
      signature = it.signature;
      signs = signs_from disk_of file file_mid file_now secret _ it.signature read.same it.signs;
      attested = it.attested;
      attests = it.attests;
      is = λ now held. (let was = it.is now held in (was.0, store.content was.0 was.1, was.2));
      held = more it.attested it.held;
    }

    refuses : (fault : AppendFault) (seconds : ℕ) → RefusesKeeping keeper_of disk_of name ends envelope secret mid new file_mid file_now fault seconds
        → RefusesKeeping keeper_of disk_of name ends envelope secret old new file file_now fault seconds
    refuses ClockFailed seconds none = absurd none
    refuses Exhausted seconds (still, none) = (untouched still, none)
    refuses DiskFailed seconds (still, torn) = (as_before_then keeper_of old mid new store still, tears_from disk_of file file_mid file_now secret read.same torn)
    refuses CommitFailed seconds may =
        keeps (λ a. MayGain keeper_of mid new a.change) (λ a. MayGain keeper_of old new a.change) (λ a gains. may_gain_from keeper_of old mid new store a.change gains) seconds may
    refuses Memory seconds still = untouched still
    refuses MemoryAfter seconds (still, lost) = (as_before_then keeper_of old mid new store still, (lost.0, signs_from disk_of file file_mid file_now secret _ lost.0 read.same lost.1))

    module _ (left left_now : Option (List ℕ)) where
      timed : (fault : AppendFault) → Timed keeper_of disk_of name ends envelope secret mid new file_mid file_now left left_now (RefusesKeeping keeper_of disk_of name ends envelope secret mid new file_mid file_now fault)
          → Timed keeper_of disk_of name ends envelope secret old new file file_now left left_now (RefusesKeeping keeper_of disk_of name ends envelope secret old new file file_now fault)
      timed fault it = record { seconds = it.seconds; asked = it.asked; is = refuses fault it.seconds it.is }

      pub store_from : (result : Result Ends AppendFault) → StoreEnds keeper_of disk_of name ends envelope secret mid new file_mid file_now left left_now result
          → StoreEnds keeper_of disk_of name ends envelope secret old new file file_now left left_now result
      store_from (Ok kept) it = record {
        seconds = it.seconds;
        asked = it.asked;
        is = (keeps (λ a. Gains keeper_of mid new a.change) (λ a. Gains keeper_of old new a.change) (λ a gains. gains_from keeper_of old mid new store a.change gains) it.seconds it.is.0, it.is.1);
      }
      store_from (Err ClockFailed) (still, unasked) = (untouched still, unasked)
      store_from (Err Exhausted) it = timed Exhausted it
      store_from (Err DiskFailed) it = timed DiskFailed it
      store_from (Err CommitFailed) it = timed CommitFailed it
      store_from (Err Memory) it = timed Memory it
      store_from (Err MemoryAfter) it = timed MemoryAfter it

  -- what is told afterwards was told before
  pub told_before : (old new : R) (file file_now : D) (left left_now : Option (List ℕ)) (result : Result Ends AppendFault) → StoreEnds keeper_of disk_of name ends envelope secret old new file file_now left left_now result
      → (now : Repository) → keeper_of.content new ≡ Some now → (was : Repository) × (keeper_of.content old ≡ Some was)
  told_before old new file file_now left left_now (Ok kept) it now held = (let was = it.is.0.is now held in (was.0, was.1))
  told_before old new file file_now left left_now (Err ClockFailed) it now held = (now, it.0.store.content now held)
  told_before old new file file_now left left_now (Err Exhausted) it now held = (now, it.is.0.store.content now held)
  told_before old new file file_now left left_now (Err DiskFailed) it now held = (now, it.is.0.content now held)
  told_before old new file file_now left left_now (Err CommitFailed) it now held = (let was = it.is.is now held in (was.0, was.1))
  told_before old new file file_now left left_now (Err Memory) it now held = (now, it.is.store.content now held)
  told_before old new file file_now left left_now (Err MemoryAfter) it now held = (now, it.is.0.content now held)
