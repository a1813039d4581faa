-- What each outcome of `record` and of `annotate` means.
use Rattle.std.specs.Prelude.{◌≡◌, ◌<◌, ℕ, Bool, true, false, List, length, Option, Result, Ok, Err}
use Rattle.octets.specs.Content.{GainsPart, Told, with_end}
use Rattle.git_object.specs.Repository.{Repository, value_of}
use Rattle.keeper_api.specs.declared.keepers.Keeper as keeper
use Rattle.edge_io.specs.declared.disks.Disk as disk
use Rattle.rsl_chain.specs.declared.entries.EntryBody.{EntryBody}
use Rattle.rsl_chain.specs.declared.entries.EntryBody.TheVariants.{Annotation, Reference}
use Rattle.lms_keys.specs.HssSecret.{Secret}
use Rattle.rsl_chain.specs.Logs.{IsLogOf}
use Rattle.log_appending.specs.Appending.{AppendEnds}
use Rattle.log_appending.specs.Lines.{break_line, entry_line}
use Rattle.log_appending.specs.Opening.{WhyUnread, unread_disk, unread_keeper}
use Rattle.log_appending.specs.Signing as append
use Rattle.log_appending.specs.Untouched.{Untouched}
use Rattle.log_appending.specs.declared.appending.AppendFault.{AppendFault}
use Rattle.log_appending.specs.declared.appending.Appended.{Appended}
use Rattle.log_appending.specs.declared.opening.ReadingFault.{ReadingFault}
use Rattle.log_appending.specs.declared.opening.ReadingFault.TheVariants as reading
use Rattle.log_appending.specs.declared.telling.RecordFault.{RecordFault}
use Rattle.log_appending.specs.declared.telling.RecordFault.TheVariants.{Unread, BreakUntold, Unappended, SinkFailed}
use Rattle.log_appending.specs.declared.values.NotAppended.{NotAppended}
use Rattle.log_appending.specs.declared.values.NotAppended.TheVariants as none

-- which refusals are a fault of the store, of the disk, of the clock, before anything is printed
abbrev pub no_keeper : NotAppended → Bool
no_keeper (none.Unread fault) = unread_keeper fault
no_keeper (none.Unappended fault) = append.commit_failed fault

abbrev pub no_disk : NotAppended → Bool
no_disk (none.Unread fault) = unread_disk fault
no_disk (none.Unappended fault) = append.disk_failed fault

abbrev pub no_clock : NotAppended → Bool
no_clock (none.Unread fault) = false
no_clock (none.Unappended fault) = append.clock_failed fault

-- and of the command
abbrev pub sink_failed : RecordFault → Bool
sink_failed (Unread fault) = false
sink_failed (BreakUntold id) = true
sink_failed (Unappended fault) = false
sink_failed SinkFailed = true

abbrev pub keeper_failed : RecordFault → Bool
keeper_failed (Unread fault) = unread_keeper fault
keeper_failed (BreakUntold id) = false
keeper_failed (Unappended fault) = append.commit_failed fault
keeper_failed SinkFailed = false

abbrev pub disk_failed : RecordFault → Bool
disk_failed (Unread fault) = unread_disk fault
disk_failed (BreakUntold id) = false
disk_failed (Unappended fault) = append.disk_failed fault
disk_failed SinkFailed = false

abbrev pub clock_failed : RecordFault → Bool
clock_failed (Unread fault) = false
clock_failed (BreakUntold id) = false
clock_failed (Unappended fault) = append.clock_failed fault
clock_failed SinkFailed = false

-- a refusal as the command's answer
abbrev pub untold : RecordFault → Result (Unit {0}) RecordFault
untold fault = Err fault

-- what is printed where nothing was read: the break of a broken log alone
abbrev pub SaysUnread : ReadingFault → Option (List ℕ) → Option (List ℕ) → Type 0
SaysUnread reading.KeyFile printed printed_now = printed_now ≡ printed
SaysUnread reading.DiskFailed printed printed_now = printed_now ≡ printed
SaysUnread (reading.LogBroken id) printed printed_now = printed_now ≡ with_end printed (break_line id)
SaysUnread reading.TooLarge printed printed_now = printed_now ≡ printed
SaysUnread reading.KeeperFailed printed printed_now = printed_now ≡ printed
SaysUnread reading.Memory printed printed_now = printed_now ≡ printed

-- how it is told why nothing was read: as it is, and of a broken log with the line of its break, of which a front may
-- be
-- printed where the sink fails
abbrev pub TellsUnread : Option (List ℕ) → Option (List ℕ) → ReadingFault → RecordFault → Type 0
TellsUnread printed printed_now fault (Unread told) = (told ≡ fault) × SaysUnread fault printed printed_now
TellsUnread printed printed_now fault (BreakUntold id) = (fault ≡ reading.LogBroken id)
    × GainsPart printed printed_now (break_line id)
TellsUnread printed printed_now fault (Unappended other) = ⊥
TellsUnread printed printed_now fault SinkFailed = ⊥

-- the repository's log, and what is so of an entry's body behind it
pub record IsRead (IsSo : List (List ℕ) → EntryBody → Repository → Type 0) (ids : List (List ℕ)) (body : EntryBody)
    (r : Repository) : Type 0 where
  pub log : IsLogOf r ids
  pub so : IsSo ids body r

module _ {R D : Type 0} (keeper_of : keeper.Ghosts R) (disk_of : disk.Ghosts D) (left left_now : Option (List ℕ))
    (old new : R) (file file_now : D) where
  -- the log was read and a body made, of which this is so in any case, and this in the repository; and adding an entry
  -- of
  -- it came to this
  pub record Tries (Is : EntryBody → Type 0) (IsSo : List (List ℕ) → EntryBody → Repository → Type 0)
      (result : Result Appended AppendFault) : Type 0 where
    pub secret : Secret
    pub ids : List (List ℕ)
    pub body : EntryBody
    pub is : Is body
    pub short : length ids < 1000000
    pub read : Told (λ was now. IsRead IsSo ids body was) (keeper_of.content old) (keeper_of.content new)
    pub ends : AppendEnds keeper_of disk_of secret old new file file_now ids body left left_now result

  -- what was wanted was not read, nothing was asked of the clock, and store and disk are as they were
  pub record Refuses (fault : ReadingFault) : Type 0 where
    pub why : WhyUnread keeper_of disk_of new file_now fault
    pub same : Untouched keeper_of disk_of old new file file_now
    pub unasked : left_now ≡ left

  module _ (Is : EntryBody → Type 0) (IsSo : List (List ℕ) → EntryBody → Repository → Type 0) where
    -- an entry was added, and nothing is printed yet; or why not
    abbrev pub Adds : Result Appended NotAppended → Type 0
    Adds (Ok appended) = Tries Is IsSo (Ok appended)
    Adds (Err (none.Unread fault)) = Refuses fault
    Adds (Err (none.Unappended fault)) = Tries Is IsSo (Err fault)

    -- an entry was added and told; or why not, what is left of it, and what was printed
    abbrev pub AddsTold : Option (List ℕ) → Option (List ℕ) → Result (Unit {0}) RecordFault → Type 0
    AddsTold printed printed_now (Ok done) = (appended : Appended) × Tries Is IsSo (Ok appended)
        × (printed_now ≡ with_end printed (entry_line appended))
    AddsTold printed printed_now (Err (Unread fault)) = Refuses fault × SaysUnread fault printed printed_now
    AddsTold printed printed_now (Err (BreakUntold id)) = Refuses (reading.LogBroken id)
        × GainsPart printed printed_now (break_line id)
    AddsTold printed printed_now (Err (Unappended fault)) = Tries Is IsSo (Err fault) × (printed_now ≡ printed)
    AddsTold printed printed_now (Err SinkFailed) = (appended : Appended) × Tries Is IsSo (Ok appended)
        × GainsPart printed printed_now (entry_line appended)

-- ---- `record`

-- the body records a target of the reference
abbrev pub Records : List ℕ → EntryBody → Type 0
Records name body = (target : List ℕ) × (body ≡ Reference name target)

-- which is its value: zeros where it is not there
abbrev pub RecordsValue : List ℕ → List (List ℕ) → EntryBody → Repository → Type 0
RecordsValue name ids body r = body ≡ Reference name (value_of r name)

module _ {R D : Type 0} (keeper_of : keeper.Ghosts R) (disk_of : disk.Ghosts D) (name : List ℕ)
    (left left_now : Option (List ℕ)) (old new : R) (file file_now : D) where
  abbrev pub ValueEnds : Result Appended NotAppended → Type 0
  ValueEnds result = Adds keeper_of disk_of left left_now old new file file_now (Records name) (RecordsValue name)
      result

  abbrev pub RecordEnds : Option (List ℕ) → Option (List ℕ) → Result (Unit {0}) RecordFault → Type 0
  RecordEnds printed printed_now result = AddsTold keeper_of disk_of left left_now old new file file_now (Records name)
      (RecordsValue name) printed printed_now result

-- ---- `annotate`

-- the body is the annotation
abbrev pub Annotates : List (List ℕ) → Bool → List ℕ → EntryBody → Type 0
Annotates noted skip message body = body ≡ Annotation noted skip message

-- of the repository nothing more is asked: the ids may be any
abbrev pub AnyNoted : List (List ℕ) → EntryBody → Repository → Type 0
AnyNoted ids body r = Unit {0}

module _ {R D : Type 0} (keeper_of : keeper.Ghosts R) (disk_of : disk.Ghosts D) (noted : List (List ℕ)) (skip : Bool)
    (message : List ℕ) (left left_now : Option (List ℕ)) (old new : R) (file file_now : D) where
  abbrev pub NoteEnds : Result Appended NotAppended → Type 0
  NoteEnds result = Adds keeper_of disk_of left left_now old new file file_now (Annotates noted skip message) AnyNoted
      result

  abbrev pub AnnotateEnds : Option (List ℕ) → Option (List ℕ) → Result (Unit {0}) RecordFault → Type 0
  AnnotateEnds printed printed_now result = AddsTold keeper_of disk_of left left_now old new file file_now
      (Annotates noted skip message) AnyNoted printed printed_now result
