-- How `record` and `annotate` end the program, what they come to where store and disk tell what they hold, and the laws
-- of
-- them.
use Rattle.std.specs.Prelude.{◌≡◌, ◌<◌, ◌⊎◌, ℕ, Bool, List, length, Option, Some, Result, Ok, Err}
use Rattle.git_object.specs.Repository.{Repository}
use Rattle.keeper_api.specs.declared.keepers.Keeper as keeper
use Rattle.edge_io.specs.declared.disks.Disk as disk
use Rattle.lms_keys.specs.HssSecret.{Secret}
use Rattle.leaf_journal.specs.KeyFile.{IsKeyFile}
use Rattle.leaf_journal.specs.Files.{IsLeastUnused, IsNoKeyFile, IsUsedUp}
use Rattle.rsl_chain.specs.Logs.{IsBreakOf, IsLogOf}
use Rattle.worlds.specs.Endings.{IsStopped}
use Rattle.worlds.specs.declared.ending.Ending.{Ending}
use Rattle.worlds.specs.declared.ending.Ending.TheVariants as ending
use Rattle.worlds.specs.declared.ending.Part.TheVariants as part
use Rattle.worlds.specs.declared.ending.Refusal.TheVariants as refusal
use Rattle.log_appending.specs.Recording.{AnnotateEnds, RecordEnds}
use Rattle.log_appending.specs.declared.appending.AppendFault.{AppendFault}
use Rattle.log_appending.specs.declared.appending.AppendFault.TheVariants as append
use Rattle.log_appending.specs.declared.opening.ReadingFault.{ReadingFault}
use Rattle.log_appending.specs.declared.opening.ReadingFault.TheVariants as reading
use Rattle.log_appending.specs.declared.telling.RecordFault.{RecordFault}
use Rattle.log_appending.specs.declared.telling.RecordFault.TheVariants.{Unread, BreakUntold, Unappended, SinkFailed}

-- ---- how the program ends
abbrev pub reading_ending : ReadingFault → Ending
reading_ending reading.KeyFile = ending.Refused refusal.KeyFile
reading_ending reading.DiskFailed = ending.Refused (refusal.Fault part.Disk)
reading_ending (reading.LogBroken id) = ending.Broken
reading_ending reading.TooLarge = ending.Refused refusal.TooLarge
reading_ending reading.KeeperFailed = ending.Refused (refusal.Fault part.Keeper)
reading_ending reading.Memory = ending.Refused refusal.Memory

abbrev pub append_ending : AppendFault → Ending
append_ending append.ClockFailed = ending.Refused (refusal.Fault part.Clock)
append_ending append.Exhausted = ending.Refused refusal.Exhausted
append_ending append.DiskFailed = ending.Refused (refusal.Fault part.Disk)
append_ending append.CommitFailed = ending.Refused (refusal.Fault part.Keeper)
append_ending append.Memory = ending.Refused refusal.Memory
append_ending append.MemoryAfter = ending.Refused refusal.Memory

abbrev pub record_ending : Result (Unit {0}) RecordFault → Ending
record_ending (Ok done) = ending.Done
record_ending (Err (Unread fault)) = reading_ending fault
record_ending (Err (BreakUntold id)) = ending.Refused (refusal.Fault part.Sink)
record_ending (Err (Unappended fault)) = append_ending fault
record_ending (Err SinkFailed) = ending.Refused (refusal.Fault part.Sink)

-- ---- what it comes to
-- the file is one of a key with an unused leaf, and the log has room
pub record IsReady (file : List ℕ) (was : Repository) : Type 0 where
  pub secret : Secret
  pub leaf : ℕ
  pub unused : IsLeastUnused file secret leaf
  pub ids : List (List ℕ)
  pub log : IsLogOf was ids
  pub short : length ids < 1000000

-- the log has room, and each leaf of the key is used
pub record IsSpent (file : List ℕ) (was : Repository) : Type 0 where
  pub secret : Secret
  pub used_up : IsUsedUp file secret
  pub ids : List (List ℕ)
  pub log : IsLogOf was ids
  pub short : length ids < 1000000

-- the file is one of a key, and the log breaks at this commit
pub record HasBreak (file : List ℕ) (was : Repository) (id : List ℕ) : Type 0 where
  pub secret : Secret
  pub is : IsKeyFile file secret
  pub breaks : IsBreakOf was id

-- the file is one of a key, and the log has as many entries as a log may have
pub record HasFullLog (file : List ℕ) (was : Repository) : Type 0 where
  pub secret : Secret
  pub is : IsKeyFile file secret
  pub ids : List (List ℕ)
  pub log : IsLogOf was ids
  pub full : length ids ≡ 1000000

abbrev pub ReadingComes : List ℕ → Repository → ReadingFault → Type 0
ReadingComes file was reading.KeyFile = IsNoKeyFile file
ReadingComes file was reading.DiskFailed = ⊥
ReadingComes file was (reading.LogBroken id) = HasBreak file was id
ReadingComes file was reading.TooLarge = HasFullLog file was
ReadingComes file was reading.KeeperFailed = ⊥
ReadingComes file was reading.Memory = ⊥

abbrev pub AppendComes : List ℕ → Repository → AppendFault → Type 0
AppendComes file was append.ClockFailed = ⊥
AppendComes file was append.Exhausted = IsSpent file was
AppendComes file was append.DiskFailed = ⊥
AppendComes file was append.CommitFailed = ⊥
AppendComes file was append.Memory = ⊥
AppendComes file was append.MemoryAfter = ⊥

-- what `record` comes to, and `annotate`
abbrev pub RecordComes : List ℕ → Repository → Result (Unit {0}) RecordFault → Type 0
RecordComes file was (Ok done) = IsReady file was
RecordComes file was (Err (Unread fault)) = ReadingComes file was fault
RecordComes file was (Err (BreakUntold id)) = ⊥
RecordComes file was (Err (Unappended fault)) = AppendComes file was fault
RecordComes file was (Err SinkFailed) = ⊥

-- ---- the laws
-- it comes to one outcome at most
pub record OneOfLog : Type 0 where
  pub recorded : (file : List ℕ) (was : Repository) (a b : Result (Unit {0}) RecordFault) → RecordComes file was a
      → RecordComes file was b → a ≡ b

-- what ended is what the command comes to, or it stopped
pub record TellsOfLog {R D : Type 0} (keeper_of : keeper.Ghosts R) (disk_of : disk.Ghosts D) : Type 0 where
  pub recorded : (name : List ℕ) (left left_now : Option (List ℕ)) (was now : Repository) (file file_now : List ℕ)
      (old new : R) (key key_now : D) (printed printed_now : Option (List ℕ)) (outcome : Result (Unit {0}) RecordFault)
      → keeper_of.content old ≡ Some was → keeper_of.content new ≡ Some now → disk_of.seen key ≡ Some file
      → disk_of.seen key_now ≡ Some file_now
      → RecordEnds keeper_of disk_of name left left_now old new key key_now printed printed_now outcome
      → RecordComes file was outcome ⊎ IsStopped (record_ending outcome)
  pub annotated : (noted : List (List ℕ)) (skip : Bool) (message : List ℕ) (left left_now : Option (List ℕ))
      (was now : Repository) (file file_now : List ℕ) (old new : R) (key key_now : D)
      (printed printed_now : Option (List ℕ)) (outcome : Result (Unit {0}) RecordFault)
      → keeper_of.content old ≡ Some was → keeper_of.content new ≡ Some now → disk_of.seen key ≡ Some file
      → disk_of.seen key_now ≡ Some file_now
      → AnnotateEnds keeper_of disk_of noted skip message left left_now old new key key_now printed printed_now outcome
      → RecordComes file was outcome ⊎ IsStopped (record_ending outcome)
