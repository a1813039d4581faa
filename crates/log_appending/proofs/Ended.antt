-- What came of a step is what came of the whole.
use Rattle.std.proofs.Common.{◌≡◌, ◌+◌, ◌∙◌, ℕ, List, [], ◌∷◌, length, ap, refl, subst}
use Rattle.std.specs.Prelude.{Option, Ok, Err, false}
use Rattle.octets.specs.Content.{with_front}
use Rattle.keeper_api.proofs.Coming.{as_before}
use Rattle.keeper_api.specs.declared.keepers.Keeper as keeper
use Rattle.edge_io.specs.declared.disks.Disk as disk
use Rattle.rsl_chain.specs.declared.entries.EntryBody.{EntryBody}
use Rattle.lms_keys.specs.HssSecret.{Secret}
use Rattle.rsl_chain.specs.declared.drafts.Draft.{Draft}
use Rattle.log_appending.proofs.Moved.{kept, kept_same, used_up}
use Rattle.log_appending.specs.Appending.{AppendEnds, AppendsDraft, Drafts, RefusesDraft}
use Rattle.log_appending.specs.Drafting.{WhyUndrafted}
use Rattle.log_appending.specs.Entries.{draft_after}
use Rattle.log_appending.specs.Signing.{SignEnds, clock_failed}
use Rattle.log_appending.specs.Untouched.{Untouched}
use Rattle.log_appending.specs.declared.appending.AppendFault.{AppendFault}
use Rattle.log_appending.specs.declared.appending.AppendFault.TheVariants.{ClockFailed, Exhausted, DiskFailed, CommitFailed, Memory, MemoryAfter}
use Rattle.log_appending.specs.declared.appending.Appended.{Appended}

module _ {R D : Type 0} (keeper_of : keeper.Ghosts R) (disk_of : disk.Ghosts D) where
  -- nothing was done
  pub untouched : (store : R) (file : D) → Untouched keeper_of disk_of store store file file
  untouched store file = record { store = as_before keeper_of store; kept = kept disk_of file }

  -- why a draft was not signed is why its entry was not added
  pub unsigned : (secret : Secret) (draft : Draft) (store : R) (file file_now : D) (fault : AppendFault) → SignEnds disk_of secret draft file file_now (Err fault)
      → RefusesDraft keeper_of disk_of secret store store file file_now draft fault
  unsigned secret draft store file file_now ClockFailed none = absurd none
  unsigned secret draft store file file_now Exhausted none =
      (record { store = as_before keeper_of store; kept = kept_same disk_of file file_now none.same }, used_up disk_of secret file file_now none)
  unsigned secret draft store file file_now DiskFailed torn = (as_before keeper_of store, torn)
  unsigned secret draft store file file_now CommitFailed none = absurd none
  unsigned secret draft store file file_now Memory still = record { store = as_before keeper_of store; kept = kept_same disk_of file file_now still }
  unsigned secret draft store file file_now MemoryAfter lost = (as_before keeper_of store, lost)

  module _ (secret : Secret) (old new : R) (file file_now : D) (ids : List (List ℕ)) (body : EntryBody) (left left_now : Option (List ℕ)) where
    -- the seconds of a draft, of which this is so
    as_drafted : (P : Draft → Type 0) (draft : Draft) (seconds : ℕ) → left ≡ with_front (seconds ∷ []) left_now → draft ≡ draft_after ids seconds body → P draft
        → Drafts keeper_of disk_of secret old new file file_now ids body left left_now P
    as_drafted P draft seconds asked is here = record { seconds = seconds; asked = asked; is = subst P is here }

    number_of : (draft : Draft) (seconds : ℕ) → draft ≡ draft_after ids seconds body → draft.number ≡ length ids + 1
    unfolding draft_after
    number_of draft seconds is = ap (λ (d : Draft). d.number) is

    pub added : (draft : Draft) (seconds : ℕ) (appended : Appended) (number : ℕ) → left ≡ with_front (seconds ∷ []) left_now → draft ≡ draft_after ids seconds body
        → appended.number ≡ number → number ≡ draft.number → AppendsDraft keeper_of disk_of secret old new file file_now draft appended.id
        → AppendEnds keeper_of disk_of secret old new file file_now ids body left left_now (Ok appended)
    added draft seconds appended number asked is first same appends = (
      as_drafted (λ (d : Draft). AppendsDraft keeper_of disk_of secret old new file file_now d appended.id) draft seconds asked is appends,
      first ∙ same ∙ number_of draft seconds is,
    )

    -- why the entry of a draft was not added
    pub not_added : (draft : Draft) (seconds : ℕ) (fault : AppendFault) → left ≡ with_front (seconds ∷ []) left_now → draft ≡ draft_after ids seconds body
        → RefusesDraft keeper_of disk_of secret old new file file_now draft fault → AppendEnds keeper_of disk_of secret old new file file_now ids body left left_now (Err fault)
    not_added draft seconds ClockFailed asked is none = absurd none
    not_added draft seconds Exhausted asked is why = as_drafted (λ (d : Draft). RefusesDraft keeper_of disk_of secret old new file file_now d Exhausted) draft seconds asked is why
    not_added draft seconds DiskFailed asked is why = as_drafted (λ (d : Draft). RefusesDraft keeper_of disk_of secret old new file file_now d DiskFailed) draft seconds asked is why
    not_added draft seconds CommitFailed asked is why = as_drafted (λ (d : Draft). RefusesDraft keeper_of disk_of secret old new file file_now d CommitFailed) draft seconds asked is why
    not_added draft seconds Memory asked is why = as_drafted (λ (d : Draft). RefusesDraft keeper_of disk_of secret old new file file_now d Memory) draft seconds asked is why
    not_added draft seconds MemoryAfter asked is why = as_drafted (λ (d : Draft). RefusesDraft keeper_of disk_of secret old new file file_now d MemoryAfter) draft seconds asked is why

  -- the clock is asked no more
  pub no_clock : (secret : Secret) (old new : R) (file file_now : D) (draft : Draft) (fault : AppendFault) → RefusesDraft keeper_of disk_of secret old new file file_now draft fault → clock_failed fault ≡ false
  no_clock secret old new file file_now draft ClockFailed none = absurd none
  no_clock secret old new file file_now draft Exhausted why = refl
  no_clock secret old new file file_now draft DiskFailed why = refl
  no_clock secret old new file file_now draft CommitFailed why = refl
  no_clock secret old new file file_now draft Memory why = refl
  no_clock secret old new file file_now draft MemoryAfter why = refl

  -- why there is no draft
  pub not_drafted : (secret : Secret) (store : R) (file : D) (ids : List (List ℕ)) (body : EntryBody) (left left_now : Option (List ℕ)) (fault : AppendFault) → WhyUndrafted left left_now fault
      → AppendEnds keeper_of disk_of secret store store file file ids body left left_now (Err fault)
  not_drafted secret store file ids body left left_now ClockFailed unasked = (untouched store file, unasked)
  not_drafted secret store file ids body left left_now Exhausted none = absurd none
  not_drafted secret store file ids body left left_now DiskFailed none = absurd none
  not_drafted secret store file ids body left left_now CommitFailed none = absurd none
  not_drafted secret store file ids body left left_now Memory asked = record { seconds = asked.0; asked = asked.1; is = untouched store file }
  not_drafted secret store file ids body left left_now MemoryAfter none = absurd none
