-- Steps one after the other: reading, by which nothing changes, and what comes of it then.
use Rattle.std.proofs.Common.{◌≡◌, List, ℕ, subst, sym, inl, inr, ⊎_elim}
use Rattle.std.specs.Prelude.{Option, Result, Ok, Err, Some}
use Rattle.keeper_api.proofs.Coming.{as_before_then}
use Rattle.keeper_api.specs.Undisturbed.{Undisturbed}
use Rattle.keeper_api.specs.declared.keepers.Keeper as keeper
use Rattle.edge_io.specs.Disk.{IsKept}
use Rattle.edge_io.specs.Moments.{LeavesOnly}
use Rattle.edge_io.specs.declared.disks.Disk as disk
use Rattle.rsl_chain.specs.declared.entries.EntryBody.{EntryBody}
use Rattle.lms_keys.specs.HssSecret.{Secret}
use Rattle.leaf_journal.proofs.Moving.{started, weaker}
use Rattle.leaf_journal.specs.KeyFile.{KeepsUsed}
use Rattle.leaf_journal.proofs.Steps.{signs_from, tears_from}
use Rattle.leaf_journal.specs.Files.{IsUsedUp}
use Rattle.leaf_journal.specs.Using.{FindsNone}
use Rattle.rsl_chain.specs.declared.drafts.Draft.{Draft}
use Rattle.log_appending.specs.Appending.{AppendEnds, AppendsDraft, Drafts, RefusesDraft}
use Rattle.log_appending.specs.Signing.{SignsEntry}
use Rattle.log_appending.specs.Stores.{Gains, MayGain}
use Rattle.log_appending.specs.Untouched.{Untouched}
use Rattle.log_appending.specs.declared.appending.AppendFault.{AppendFault}
use Rattle.log_appending.specs.declared.appending.AppendFault.TheVariants.{ClockFailed, Exhausted, DiskFailed, CommitFailed, Memory, MemoryAfter}
use Rattle.log_appending.specs.declared.appending.Appended.{Appended}

module _ {D : Type 0} (disk_of : disk.Ghosts D) where
  -- nothing is asked of the disk
  pub unmoved : (old : D) → ((c : List ℕ) → disk_of.left_since old (disk_of.moment old) c → disk_of.may_leave old c)
      → LeavesOnly disk_of.moment disk_of.left_since old old (KeepsUsed (disk_of.may_leave old))
  unmoved old only = started disk_of.moment disk_of.left_since old (KeepsUsed (disk_of.may_leave old)) (λ c left start q used. used c (only c left))

  -- the disk is only read
  pub only_read : (old new : D) → LeavesOnly disk_of.moment disk_of.left_since old new (disk_of.may_leave old)
      → LeavesOnly disk_of.moment disk_of.left_since old new (KeepsUsed (disk_of.may_leave old))
  only_read old new run = weaker disk_of.moment disk_of.left_since old new (disk_of.may_leave old) (KeepsUsed (disk_of.may_leave old)) (λ c may start q used. used c may) run

  pub kept : (file : D) → IsKept (disk_of.seen file) (disk_of.seen file) (disk_of.may_leave file) (disk_of.may_leave file)
  kept file = record { same = λ now told. told; no_more = λ c may. may }

  pub kept_twice : (old mid new : D) → IsKept (disk_of.seen old) (disk_of.seen mid) (disk_of.may_leave old) (disk_of.may_leave mid)
      → IsKept (disk_of.seen mid) (disk_of.seen new) (disk_of.may_leave mid) (disk_of.may_leave new)
      → IsKept (disk_of.seen old) (disk_of.seen new) (disk_of.may_leave old) (disk_of.may_leave new)
  kept_twice old mid new first next = record { same = λ now told. first.same now (next.same now told); no_more = λ c may. first.no_more c (next.no_more c may) }

  -- where each leaf is used, nothing was done
  pub kept_same : (old new : D) → new ≡ old → IsKept (disk_of.seen old) (disk_of.seen new) (disk_of.may_leave old) (disk_of.may_leave new)
  kept_same old new same = subst (λ (d : D). IsKept (disk_of.seen old) (disk_of.seen d) (disk_of.may_leave old) (disk_of.may_leave d)) (sym same) (kept old)

  pub used_up : (secret : Secret) (old new : D) → FindsNone disk_of secret old new → (bytes : List ℕ) → disk_of.seen new ≡ Some bytes → IsUsedUp bytes secret
  used_up secret old new none bytes told = none.used_up bytes (subst (λ (d : D). disk_of.seen d ≡ Some bytes) none.same told)

module _ {R : Type 0} (keeper_of : keeper.Ghosts R) where
  pub gains_from : (text : List ℕ) (old mid new : R) → Undisturbed keeper_of old mid → Gains keeper_of text mid new → Gains keeper_of text old new
  gains_from text old mid new first gains = record {
    held = λ now held. (let was = gains.held now held in (was.0, first.content was.0 was.1, was.2));
    tells = λ tells. first.tells (gains.tells tells);
    stop = gains.stop;
  }

  pub may_gain_from : (text : List ℕ) (old mid new : R) → Undisturbed keeper_of old mid → MayGain keeper_of text mid new → MayGain keeper_of text old new
  may_gain_from text old mid new first gains = record {
    held = λ now held. (let was = gains.held now held in (was.0, first.content was.0 was.1, was.2));
    tells = λ tells. first.tells (gains.tells tells);
    stop = λ tells r left. ⊎_elim (λ past. inl (first.left (gains.tells tells) r past)) (λ was. inr (was.0, first.content was.0 was.1, was.2)) (gains.stop tells r left);
  }

module _ {R D : Type 0} (keeper_of : keeper.Ghosts R) (disk_of : disk.Ghosts D) (secret : Secret) (old mid new : R) (file file_mid file_now : D)
    (store : Undisturbed keeper_of old mid) (read : IsKept (disk_of.seen file) (disk_of.seen file_mid) (disk_of.may_leave file) (disk_of.may_leave file_mid)) where
  signs : (draft : Draft) (text : List ℕ) → SignsEntry disk_of secret draft file_mid file_now text → SignsEntry disk_of secret draft file file_now text
  signs draft text entry = record {
    signature = entry.signature;
    signs = signs_from disk_of file file_mid file_now secret _ entry.signature read.same entry.signs;
    text_is = entry.text_is;
    reads = entry.reads;
  }

  untouched : Untouched keeper_of disk_of mid new file_mid file_now → Untouched keeper_of disk_of old new file file_now
  untouched still = record { store = as_before_then keeper_of old mid new store still.store; kept = kept_twice disk_of file file_mid file_now read still.kept }

  appends : (draft : Draft) (id : List ℕ) → AppendsDraft keeper_of disk_of secret mid new file_mid file_now draft id → AppendsDraft keeper_of disk_of secret old new file file_now draft id
  appends draft id added = record {
    text = added.text;
    signs = signs draft added.text added.signs;
    gains = gains_from keeper_of added.text old mid new store added.gains;
    id_is = added.id_is;
  }

  refuses : (draft : Draft) (fault : AppendFault) → RefusesDraft keeper_of disk_of secret mid new file_mid file_now draft fault → RefusesDraft keeper_of disk_of secret old new file file_now draft fault
  refuses draft ClockFailed none = absurd none
  refuses draft Exhausted (still, none) = (untouched still, none)
  refuses draft DiskFailed (still, torn) = (as_before_then keeper_of old mid new store still, tears_from disk_of file file_mid file_now secret read.same torn)
  refuses draft CommitFailed may = record {
    text = may.text;
    signs = signs draft may.text may.signs;
    gains = may_gain_from keeper_of may.text old mid new store may.gains;
  }
  refuses draft Memory still = untouched still
  refuses draft MemoryAfter (still, lost) = (
    as_before_then keeper_of old mid new store still,
    record { signature = lost.signature; signs = signs_from disk_of file file_mid file_now secret _ lost.signature read.same lost.signs },
  )

  module _ (ids : List (List ℕ)) (body : EntryBody) (left left_now : Option (List ℕ)) where
    refused : (fault : AppendFault) → Drafts keeper_of disk_of secret mid new file_mid file_now ids body left left_now (λ draft. RefusesDraft keeper_of disk_of secret mid new file_mid file_now draft fault)
        → Drafts keeper_of disk_of secret old new file file_now ids body left left_now (λ draft. RefusesDraft keeper_of disk_of secret old new file file_now draft fault)
    refused fault drafts = record { seconds = drafts.seconds; asked = drafts.asked; is = refuses _ fault drafts.is }

    -- what came of adding an entry, from before the reading on
    pub append_from : (result : Result Appended AppendFault) → AppendEnds keeper_of disk_of secret mid new file_mid file_now ids body left left_now result
        → AppendEnds keeper_of disk_of secret old new file file_now ids body left left_now result
    append_from (Ok appended) (drafts, number) = (record { seconds = drafts.seconds; asked = drafts.asked; is = appends _ appended.id drafts.is }, number)
    append_from (Err ClockFailed) (still, unasked) = (untouched still, unasked)
    append_from (Err Exhausted) drafts = refused Exhausted drafts
    append_from (Err DiskFailed) drafts = refused DiskFailed drafts
    append_from (Err CommitFailed) drafts = refused CommitFailed drafts
    append_from (Err Memory) drafts = refused Memory drafts
    append_from (Err MemoryAfter) drafts = refused MemoryAfter drafts
