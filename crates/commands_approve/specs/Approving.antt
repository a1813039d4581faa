-- What each outcome of `approve` means.
use Rattle.std.specs.Prelude.{◌≡◌, ℕ, Bool, false, List, Option, Some, Result, Ok, Err}
use Rattle.octets.specs.Content.{GainsPart, Told, with_end}
use Rattle.git_object.specs.Repository.{Repository}
use Rattle.keeper_api.specs.declared.keepers.Keeper as keeper
use Rattle.edge_io.specs.declared.disks.Disk as disk
use Rattle.lms_keys.specs.HssSecret.{Secret}
use Rattle.leaf_journal.specs.KeyFile.{IsKeyFile}
use Rattle.rsl_chain.specs.Logs.{IsLogOf}
use Rattle.dsse_envelope.specs.declared.envelope.Envelope.{Envelope}
use Rattle.log_appending.specs.Lines.{break_line}
use Rattle.log_appending.specs.Opening.{IsAnyLength, log_fault, unread_disk, unread_keeper}
use Rattle.log_appending.specs.Recording as recording
use Rattle.log_appending.specs.Signing as append
use Rattle.log_appending.specs.Untouched.{Untouched}
use Rattle.log_appending.specs.declared.appending.AppendFault.{AppendFault}
use Rattle.log_appending.specs.declared.opening.ReadingFault.{ReadingFault}
use Rattle.log_appending.specs.declared.opening.ReadingFault.TheVariants as reading
use Rattle.log_appending.specs.declared.telling.RecordFault.{RecordFault}
use Rattle.log_appending.specs.declared.telling.RecordFault.TheVariants.{Unread, BreakUntold, Unappended, SinkFailed}
use Rattle.commands_approve.specs.Lines.{approval_line}
use Rattle.commands_approve.specs.Storing.{StoreEnds}
use Rattle.commands_approve.specs.Wanted.{HasRoom, IsFree, IsFull, IsOverlong, IsUnreadable, IsWanted}
use Rattle.commands_approve.specs.declared.approving.ApproveFault.{ApproveFault}
use Rattle.commands_approve.specs.declared.approving.ApproveFault.TheVariants.{Unrecorded, Unreadable, Full, TooLong}
use Rattle.commands_approve.specs.declared.ends.Ends.{Ends}
use Rattle.commands_approve.specs.declared.ends.NotWanted.{NotWanted}
use Rattle.commands_approve.specs.declared.ends.NotWanted.TheVariants as want
use Rattle.commands_approve.specs.declared.keeping.NotApproved.{NotApproved}
use Rattle.commands_approve.specs.declared.keeping.NotApproved.TheVariants as none

-- why there is no approval to be signed is why none is kept
abbrev pub not_kept : NotWanted → NotApproved
not_kept (want.Log fault) = none.Unread (log_fault fault)
not_kept (want.Unreadable id) = none.Unreadable id
not_kept want.Full = none.Full
not_kept want.TooLong = none.TooLong

-- ---- which refusals are a fault of the store, of the disk, of the clock, before anything is printed
abbrev pub no_keeper : NotApproved → Bool
no_keeper (none.Unread fault) = unread_keeper fault
no_keeper (none.Unreadable id) = false
no_keeper none.Full = false
no_keeper none.TooLong = false
no_keeper (none.Unappended fault) = append.commit_failed fault

abbrev pub no_disk : NotApproved → Bool
no_disk (none.Unread fault) = unread_disk fault
no_disk (none.Unreadable id) = false
no_disk none.Full = false
no_disk none.TooLong = false
no_disk (none.Unappended fault) = append.disk_failed fault

abbrev pub no_clock : NotApproved → Bool
no_clock (none.Unread fault) = false
no_clock (none.Unreadable id) = false
no_clock none.Full = false
no_clock none.TooLong = false
no_clock (none.Unappended fault) = append.clock_failed fault

-- and of the command
abbrev pub sink_failed : ApproveFault → Bool
sink_failed (Unrecorded fault) = recording.sink_failed fault
sink_failed (Unreadable id) = false
sink_failed Full = false
sink_failed TooLong = false

abbrev pub keeper_failed : ApproveFault → Bool
keeper_failed (Unrecorded fault) = recording.keeper_failed fault
keeper_failed (Unreadable id) = false
keeper_failed Full = false
keeper_failed TooLong = false

abbrev pub disk_failed : ApproveFault → Bool
disk_failed (Unrecorded fault) = recording.disk_failed fault
disk_failed (Unreadable id) = false
disk_failed Full = false
disk_failed TooLong = false

abbrev pub clock_failed : ApproveFault → Bool
clock_failed (Unrecorded fault) = recording.clock_failed fault
clock_failed (Unreadable id) = false
clock_failed Full = false
clock_failed TooLong = false

-- a refusal as the command's answer
abbrev pub untold : ApproveFault → Result (Unit {0}) ApproveFault
untold fault = Err fault

-- how it is told why no approval is kept: as it is, and of a broken log with the line of its break
abbrev pub TellsRefusal : Option (List ℕ) → Option (List ℕ) → NotApproved → ApproveFault → Type 0
TellsRefusal printed printed_now (none.Unread fault) answer = (told : RecordFault) × (answer ≡ Unrecorded told)
    × recording.TellsUnread printed printed_now fault told
TellsRefusal printed printed_now (none.Unreadable id) answer = (answer ≡ Unreadable id) × (printed_now ≡ printed)
TellsRefusal printed printed_now none.Full answer = (answer ≡ Full) × (printed_now ≡ printed)
TellsRefusal printed printed_now none.TooLong answer = (answer ≡ TooLong) × (printed_now ≡ printed)
TellsRefusal printed printed_now (none.Unappended fault) answer = (answer ≡ Unrecorded (Unappended fault))
    × (printed_now ≡ printed)

module _ {R D : Type 0} (keeper_of : keeper.Ghosts R) (disk_of : disk.Ghosts D) (name target : List ℕ)
    (left left_now : Option (List ℕ)) (old new : R) (file file_now : D) where
  -- the log was read, and the approval of the reference to the target's tree, in which the key's signature has room,
  -- and of
  -- whose place nothing is in the way; and signing and keeping it came to this
  pub record Tries (result : Result Ends AppendFault) : Type 0 where
    pub secret : Secret
    pub ids : List (List ℕ)
    pub ends : Ends
    pub envelope : Envelope
    pub room : HasRoom secret envelope
    pub read : Told (λ was now. IsLogOf was ids × IsWanted was ids name target ends envelope × IsFree was name ends)
        (keeper_of.content old) (keeper_of.content new)
    pub stores : StoreEnds keeper_of disk_of name ends envelope secret old new file file_now left left_now result

  -- what was wanted was not read, nothing was asked of the clock, and store and disk are as they were; a log is never
  -- too long
  pub record Refuses (fault : ReadingFault) : Type 0 where
    pub why : recording.Refuses keeper_of disk_of left left_now old new file file_now fault
    pub any_length : IsAnyLength fault

  -- the disk holds a key, behind the log this is so, and the rest is as it was
  pub record Declines (Why : Repository → List (List ℕ) → Secret → Type 0) : Type 0 where
    pub secret : Secret
    pub is_key : (bytes : List ℕ) → disk_of.seen file_now ≡ Some bytes → IsKeyFile bytes secret
    pub why : (r : Repository) → keeper_of.content new ≡ Some r → (ids : List (List ℕ)) × IsLogOf r ids
        × Why r ids secret
    pub same : Untouched keeper_of disk_of old new file file_now
    pub unasked : left_now ≡ left

  -- an object is not readable, or in the way
  abbrev pub DeclinesObject : List ℕ → Type 0
  DeclinesObject id = Declines (λ r ids secret. IsUnreadable name target r ids secret id)

  -- the approval has 64 signatures of other keys, or its text would be too long
  abbrev pub DeclinesFull : Type 0
  DeclinesFull = Declines (IsFull name target)

  abbrev pub DeclinesLong : Type 0
  DeclinesLong = Declines (IsOverlong name target)

  -- the approval is kept, and nothing is printed yet; or why not
  abbrev pub KeptEnds : Result Ends NotApproved → Type 0
  KeptEnds (Ok ends) = Tries (Ok ends)
  KeptEnds (Err (none.Unread fault)) = Refuses fault
  KeptEnds (Err (none.Unreadable id)) = DeclinesObject id
  KeptEnds (Err none.Full) = DeclinesFull
  KeptEnds (Err none.TooLong) = DeclinesLong
  KeptEnds (Err (none.Unappended fault)) = Tries (Err fault)

  -- the approval is kept and told; or why not, what is left of it, and what was printed
  abbrev pub ApproveEnds : Option (List ℕ) → Option (List ℕ) → Result (Unit {0}) ApproveFault → Type 0
  ApproveEnds printed printed_now (Ok done) = (ends : Ends) × Tries (Ok ends)
      × (printed_now ≡ with_end printed (approval_line ends))
  ApproveEnds printed printed_now (Err (Unrecorded (Unread fault))) = Refuses fault
      × recording.SaysUnread fault printed printed_now
  ApproveEnds printed printed_now (Err (Unrecorded (BreakUntold id))) = Refuses (reading.LogBroken id)
      × GainsPart printed printed_now (break_line id)
  ApproveEnds printed printed_now (Err (Unrecorded (Unappended fault))) = Tries (Err fault) × (printed_now ≡ printed)
  ApproveEnds printed printed_now (Err (Unrecorded SinkFailed)) = (ends : Ends) × Tries (Ok ends)
      × GainsPart printed printed_now (approval_line ends)
  ApproveEnds printed printed_now (Err (Unreadable id)) = DeclinesObject id × (printed_now ≡ printed)
  ApproveEnds printed printed_now (Err Full) = DeclinesFull × (printed_now ≡ printed)
  ApproveEnds printed printed_now (Err TooLong) = DeclinesLong × (printed_now ≡ printed)
