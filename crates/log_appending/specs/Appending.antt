-- What each outcome of adding an entry to a log means.
use Rattle.std.specs.Prelude.{◌≡◌, ◌+◌, ℕ, List, [], ◌∷◌, length, Option, Some, Result, Ok, Err}
use Rattle.octets.specs.Content.{with_front}
use Rattle.keeper_api.specs.Undisturbed.{Undisturbed}
use Rattle.keeper_api.specs.declared.keepers.Keeper as keeper
use Rattle.edge_io.specs.declared.disks.Disk as disk
use Rattle.rsl_chain.specs.declared.entries.EntryBody.{EntryBody}
use Rattle.lms_keys.specs.HssSecret.{Secret}
use Rattle.leaf_journal.specs.Files.{IsUsedUp}
use Rattle.leaf_journal.specs.Using.{MayTear}
use Rattle.rsl_chain.specs.declared.drafts.Draft.{Draft}
use Rattle.log_appending.specs.Entries.{draft_after, entry_id}
use Rattle.log_appending.specs.Signing.{LosesLeaf, SignsEntry}
use Rattle.log_appending.specs.Stores.{Gains, MayGain}
use Rattle.log_appending.specs.Untouched.{Untouched}
use Rattle.log_appending.specs.declared.appending.AppendFault.{AppendFault}
use Rattle.log_appending.specs.declared.appending.AppendFault.TheVariants.{ClockFailed, Exhausted, DiskFailed}
use Rattle.log_appending.specs.declared.appending.AppendFault.TheVariants.{CommitFailed, Memory, MemoryAfter}
use Rattle.log_appending.specs.declared.appending.Appended.{Appended}

module _ {R D : Type 0} (keeper_of : keeper.Ghosts R) (disk_of : disk.Ghosts D) (secret : Secret) (old new : R)
    (file file_now : D) where
  -- the entry was signed, the store has it, and this is its commit's id
  pub record AppendsDraft (draft : Draft) (id : List ℕ) : Type 0 where
    pub text : List ℕ
    pub signs : SignsEntry disk_of secret draft file file_now text
    pub gains : Gains keeper_of text old new
    pub id_is : id ≡ entry_id text

  -- the entry was signed, and the store may have it
  pub record MayAppend (draft : Draft) : Type 0 where
    pub text : List ℕ
    pub signs : SignsEntry disk_of secret draft file file_now text
    pub gains : MayGain keeper_of text old new

  -- why no entry of a draft was added: each leaf is used; the first unused one may be torn, or is lost; the commit
  -- failed; or nothing was done
  abbrev pub RefusesDraft : Draft → AppendFault → Type 0
  RefusesDraft draft ClockFailed = ⊥
  RefusesDraft draft Exhausted = Untouched keeper_of disk_of old new file file_now
      × ((bytes : List ℕ) → disk_of.seen file_now ≡ Some bytes → IsUsedUp bytes secret)
  RefusesDraft draft DiskFailed = Undisturbed keeper_of old new × MayTear disk_of secret file file_now
  RefusesDraft draft CommitFailed = MayAppend draft
  RefusesDraft draft Memory = Untouched keeper_of disk_of old new file file_now
  RefusesDraft draft MemoryAfter = Undisturbed keeper_of old new × LosesLeaf disk_of secret draft file file_now

  abbrev pub DraftEnds : Draft → Result (List ℕ) AppendFault → Type 0
  DraftEnds draft (Ok id) = AppendsDraft draft id
  DraftEnds draft (Err fault) = RefusesDraft draft fault

  module _ (ids : List (List ℕ)) (body : EntryBody) (left left_now : Option (List ℕ)) where
    -- the clock told the seconds of the draft, of which this is so
    pub record Drafts (P : Draft → Type 0) : Type 0 where
      pub seconds : ℕ
      pub asked : left ≡ with_front (seconds ∷ []) left_now
      pub is : P (draft_after ids seconds body)

    -- the entry of this body after those of these ids was added; or why not, and what is left of it
    abbrev pub AppendEnds : Result Appended AppendFault → Type 0
    AppendEnds (Ok appended) = Drafts (λ draft. AppendsDraft draft appended.id) × (appended.number ≡ length ids + 1)
    AppendEnds (Err ClockFailed) = Untouched keeper_of disk_of old new file file_now × (left_now ≡ left)
    AppendEnds (Err Exhausted) = Drafts (λ draft. RefusesDraft draft Exhausted)
    AppendEnds (Err DiskFailed) = Drafts (λ draft. RefusesDraft draft DiskFailed)
    AppendEnds (Err CommitFailed) = Drafts (λ draft. RefusesDraft draft CommitFailed)
    AppendEnds (Err Memory) = Drafts (λ draft. RefusesDraft draft Memory)
    AppendEnds (Err MemoryAfter) = Drafts (λ draft. RefusesDraft draft MemoryAfter)
