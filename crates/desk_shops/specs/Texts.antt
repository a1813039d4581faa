-- A repository's stream as one text in memory, and why there is none.
use Rattle.std.specs.Prelude.{◌≡◌, ◌⊎◌, ◌<◌, ◌≤◌, ◌++◌, ℕ, Bool, true, false, List, length, Result, Ok, Err}
use Rattle.std.specs.List.{AllByRecursion, flat_map}
use Rattle.std.specs.FinMap.{entries}
use Rattle.git_object.specs.Objects.{Pair}
use Rattle.git_object.specs.Repository.{Repository}
use Rattle.clone_stream.specs.Exporting.{IsDamagedAt}
use Rattle.clone_stream.specs.Streams.{IsOwn, IsStreamText, header, object_record, stream_text}
use Rattle.clone_stream.specs.declared.export_faults.ExportFault.{ExportFault}
use Rattle.clone_stream.specs.declared.export_faults.ExportFault.TheVariants as export
use Rattle.desk_shops.specs.declared.text_faults.TextFault.{TextFault}
use Rattle.desk_shops.specs.declared.text_faults.TextFault.TheVariants.{Damaged, TooLarge, KeeperFailed, Memory}

-- the most bytes that a text may have: 256 MiB
abbrev pub largest_text : ℕ
largest_text = 268435456

-- the text up to objects that are kept undamaged passes the limit
pub record PassesInObjects (r : Repository) : Type 0 where
  pub first : List (List ℕ × Pair)
  pub rest : List (List ℕ × Pair)
  pub whole : entries r.objects ≡ first ++ rest
  pub own : AllByRecursion IsOwn first
  pub past : largest_text < length (header ++ flat_map object_record first)

-- no object is kept damaged, and the text passes the limit
pub record PassesAfterObjects (r : Repository) : Type 0 where
  pub own : AllByRecursion IsOwn (entries r.objects)
  pub past : largest_text < length (stream_text r)

-- the text passes the limit before the first object that is kept damaged
abbrev pub IsTooLarge : Repository → Type 0
IsTooLarge r = PassesInObjects r ⊎ PassesAfterObjects r

-- the first object that is kept damaged stands at this id, and what comes before its record is within the limit
pub record IsDamagedFirst (r : Repository) (id : List ℕ) : Type 0 where
  pub front : List ℕ
  pub damaged : IsDamagedAt r id front
  pub within : length front ≤ largest_text

-- the text of a repository, or why there is none
abbrev pub IsTextOf : Repository → Result (List ℕ) TextFault → Type 0
IsTextOf r (Ok text) = IsStreamText r text × (length text ≤ largest_text)
IsTextOf r (Err (Damaged id)) = IsDamagedFirst r id
IsTextOf r (Err TooLarge) = IsTooLarge r
IsTextOf r (Err KeeperFailed) = Unit {0}
IsTextOf r (Err Memory) = Unit {0}

-- the fault that the keeper counts
abbrev pub text_keeper_failed : TextFault → Bool
text_keeper_failed (Damaged id) = false
text_keeper_failed TooLarge = false
text_keeper_failed KeeperFailed = true
text_keeper_failed Memory = false

-- this fault, or that the text is too large where it passed the limit
abbrev pub past_or : Bool → TextFault → TextFault
past_or true fault = TooLarge
past_or false fault = fault

-- what a refusal of the stream is, by whether what went out passed the limit
abbrev pub fault_as : Bool → ExportFault → TextFault
fault_as past (export.Damaged id) = past_or past (Damaged id)
fault_as past (export.TooLarge limit) = TooLarge
fault_as past export.KeeperFailed = KeeperFailed
fault_as past export.SinkFailed = past_or past Memory
fault_as past export.Memory = past_or past Memory
