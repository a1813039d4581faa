-- What each command comes to where the source and the store tell what they hold: one outcome, faults and memory aside.
use Rattle.std.specs.Prelude.{◌≡◌, ◌≢◌, ◌≤◌, ◌⊎◌, ℕ, List, length, Result, Ok, Err, Bool, IsTrue, false}
use Rattle.git_object.specs.Repository.{Repository, empty_repository}
use Rattle.clone_stream.specs.Deciding.{Decides}
use Rattle.clone_stream.specs.Exporting.{IsDamagedAt, PassesFirst}
use Rattle.clone_stream.specs.Faults.{fault_number}
use Rattle.clone_stream.specs.Streams.{IsStreamText, largest_stream}
use Rattle.clone_stream.specs.declared.export_faults.ExportFault.{ExportFault}
use Rattle.clone_stream.specs.declared.export_faults.ExportFault.TheVariants as export
use Rattle.clone_stream.specs.declared.stream_faults.StreamFault.{StreamFault}
use Rattle.commands_stream.specs.declared.importing.ImportFault.{ImportFault}
use Rattle.commands_stream.specs.declared.importing.ImportFault.TheVariants as import
use Rattle.commands_stream.specs.declared.taking.TakeFault.{TakeFault}
use Rattle.commands_stream.specs.declared.taking.TakeFault.TheVariants as take

-- nothing is held, and the bytes are this repository's stream
pub record IsTaken (was : Repository) (bytes : List ℕ) (r : Repository) : Type 0 where
  pub empty : was ≡ empty_repository
  pub short : length bytes ≤ largest_stream
  pub text : IsStreamText r bytes

-- nothing is held, and this decides how the bytes are refused
pub record IsRefusedStream (was : Repository) (bytes : List ℕ) (number : ℕ) : Type 0 where
  pub empty : was ≡ empty_repository
  pub fault : StreamFault
  pub number_is : number ≡ fault_number fault
  pub decides : Decides bytes fault

-- no stream is taken, for the refusal of this number
abbrev pub IsNotTaken : Repository → List ℕ → ℕ → Type 0
IsNotTaken was bytes number = ((number ≡ 8) × (was ≢ empty_repository)) ⊎ IsRefusedStream was bytes number

-- what taking a stream is refused for
abbrev pub TakeComes : Repository → List ℕ → TakeFault → Type 0
TakeComes was bytes (take.Stream number) = IsNotTaken was bytes number
TakeComes was bytes take.SourceFailed = ⊥
TakeComes was bytes take.KeeperFailed = ⊥
TakeComes was bytes take.Memory = ⊥

-- the repository that is judged: the one that the bytes spell, or the one that is held
abbrev pub IsOpened : Bool → Repository → List ℕ → Repository → Type 0
IsOpened stdin was bytes r = (IsTrue stdin × IsTaken was bytes r) ⊎ ((stdin ≡ false) × (r ≡ was))

-- what `import` comes to
abbrev pub ImportComes : Repository → List ℕ → Result (Unit {0}) ImportFault → Type 0
ImportComes was bytes (Ok done) = (r : Repository) × IsTaken was bytes r
ImportComes was bytes (Err (import.Untaken fault)) = TakeComes was bytes fault
ImportComes was bytes (Err import.SinkFailed) = ⊥

-- the repository that is held has a stream within the limit
pub record HasStream (was : Repository) : Type 0 where
  pub text : List ℕ
  pub is : IsStreamText was text
  pub short : length text ≤ largest_stream

-- what `export` comes to
abbrev pub ExportComes : Repository → Result (Unit {0}) ExportFault → Type 0
ExportComes was (Ok done) = HasStream was
ExportComes was (Err (export.Damaged id)) = (front : List ℕ) × IsDamagedAt was id front
ExportComes was (Err (export.TooLarge limit)) = (limit ≡ largest_stream) × PassesFirst was
ExportComes was (Err export.KeeperFailed) = ⊥
ExportComes was (Err export.SinkFailed) = ⊥
ExportComes was (Err export.Memory) = ⊥
