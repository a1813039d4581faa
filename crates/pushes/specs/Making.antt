-- The push of an entry of a repository, and why there is none.
use Rattle.std.specs.Prelude.{◌≡◌, ◌<◌, ◌∷◌, ◌++◌, [], ℕ, Bool, true, false, List, Option, Some, None, length}
use Rattle.std.specs.Prelude.{Result, Ok, Err, ◌+◌}
use Rattle.std.specs.FinMap.{retain_keys, values}
use Rattle.std.specs.List.{find, flat_map}
use Rattle.std.specs.Option.{is_none}
use Rattle.std.specs.List.Sorted.{IsSorted}
use Rattle.octets.specs.BytesMap.{by_bytes}
use Rattle.git_object.specs.Objects.{Pair}
use Rattle.git_object.specs.Repository.{Repository, object_at}
use Rattle.keeper_api.specs.declared.keeper_faults.KeeperFault.{KeeperFault}
use Rattle.keeper_api.specs.declared.keeper_faults.KeeperFault.TheVariants as keeper_
use Rattle.rsl_chain.specs.declared.log_faults.LogFault.{LogFault}
use Rattle.rsl_chain.specs.declared.log_faults.LogFault.TheVariants as log_
use Rattle.pushes.specs.Pushes.{IsPushText, entry_in, largest_push, object_in, own_record, push_text}
use Rattle.pushes.specs.declared.pushed.Push.{Push}
use Rattle.rsl_chain.specs.declared.entries.Entry.{Entry}
use Rattle.pushes.specs.Needing.{has}
use Rattle.pushes.specs.Going.{Go, HasNoEntry}
use Rattle.pushes.specs.declared.make_faults.MakeFault.{MakeFault}
use Rattle.pushes.specs.declared.make_faults.MakeFault.TheVariants.{Broken, Missing, TooLarge}
use Rattle.pushes.specs.declared.make_faults.MakeFault.TheVariants.{KeeperFailed, Memory}

-- what the repository keeps under these ids, by rising ids
abbrev pub kept_among : Repository → List (List ℕ) → List Pair
kept_among r ids = values (retain_keys r.objects (has ids))

-- how many bytes a push has beside the records of its objects
abbrev pub frame_len : ℕ
frame_len = 89

-- the push of an entry with the objects of these ids
abbrev pub push_with : Repository → List ℕ → List (List ℕ) → Entry → Push
push_with r id ids entry = record { entry = entry; objects = kept_among r (ids ++ id ∷ []) }

-- its text, whatever its length
abbrev pub text_with : Repository → List ℕ → List (List ℕ) → List ℕ
text_with r id ids = push_text (kept_among r (ids ++ id ∷ [])) id

abbrev pub is_missing : Repository → List ℕ → Bool
is_missing r id = is_none (object_at r id)

-- the first of these ids under which no object is kept
abbrev pub first_missing : Repository → List (List ℕ) → Option (List ℕ)
first_missing r ids = find (is_missing r) ids

module _ (r : Repository) (before : List (List ℕ)) (id : List ℕ) where
  -- all that goes with the entry is there, and this is the text of its push
  pub record IsMade (text : List ℕ) : Type 0 where
    pub ids : List (List ℕ)
    pub go : Go r before id ids
    pub whole : first_missing r ids ≡ None
    pub is : IsPushText (push_with r id ids go.entry) text

  -- this is the first object that goes with the entry and is not there
  pub record Lacks (missing : List ℕ) : Type 0 where
    pub ids : List (List ℕ)
    pub go : Go r before id ids
    pub first : first_missing r ids ≡ Some missing

  -- all is there, and the text of the push would pass the limit
  pub record IsTooLarge : Type 0 where
    pub ids : List (List ℕ)
    pub go : Go r before id ids
    pub whole : first_missing r ids ≡ None
    pub long : largest_push < length (text_with r id ids)

  -- what making the push comes to
  abbrev pub Makes : Result (List ℕ) MakeFault → Type 0
  Makes (Ok text) = IsMade text
  Makes (Err (Broken named)) = HasNoEntry r (before ++ id ∷ []) named
  Makes (Err (Missing missing)) = Lacks missing
  Makes (Err TooLarge) = IsTooLarge
  Makes (Err KeeperFailed) = Unit {0}
  Makes (Err Memory) = Unit {0}

-- among these objects is that of each of these ids that the repository has
pub record AreFound (r : Repository) (ids : List (List ℕ)) (objects : List Pair) : Type 0 where
  pub each : (q : List ℕ) → has ids q ≡ true → object_in objects q ≡ object_at r q

-- what gathering the objects of these ids stops at
abbrev pub StopsGathering : Repository → List (List ℕ) → MakeFault → Type 0
StopsGathering r ids (Broken named) = ⊥
StopsGathering r ids (Missing missing) = (has ids missing ≡ true) × (object_at r missing ≡ None)
StopsGathering r ids TooLarge = largest_push < length (flat_map own_record (kept_among r ids)) + frame_len
StopsGathering r ids KeeperFailed = Unit {0}
StopsGathering r ids Memory = Unit {0}

-- these ids stand in the order of their bytes
abbrev pub Rise : List (List ℕ) → Type 0
Rise ids = IsSorted by_bytes ids

-- the text is that of the push of these objects and of the entry that the one of this id is
pub record IsWritten (objects : List Pair) (id text : List ℕ) : Type 0 where
  pub entry : Entry
  pub found : entry_in objects id ≡ Some entry
  pub is : IsPushText (record { entry = entry; objects = objects }) text

-- what writing the push of these objects stops at
abbrev pub StopsWriting : List Pair → List ℕ → MakeFault → Type 0
StopsWriting objects id (Broken named) = (named ≡ id) × (entry_in objects id ≡ None)
StopsWriting objects id (Missing missing) = ⊥
StopsWriting objects id TooLarge = ⊥
StopsWriting objects id KeeperFailed = ⊥
StopsWriting objects id Memory = Unit {0}

-- the text is that of a push of the entry of this id
pub record IsPushOf (id text : List ℕ) : Type 0 where
  pub push : Push
  pub is : IsPushText push text
  pub of_entry : push.entry.id ≡ id

-- the fault that the store counts
abbrev pub make_failed : MakeFault → Bool
make_failed (Broken named) = false
make_failed (Missing missing) = false
make_failed TooLarge = false
make_failed KeeperFailed = true
make_failed Memory = false

-- faults of calls below
abbrev pub fault_of_keeper : KeeperFault → MakeFault
fault_of_keeper keeper_.Failed = KeeperFailed
fault_of_keeper keeper_.Memory = Memory

abbrev pub fault_of_log : LogFault → MakeFault
fault_of_log (log_.Broken named) = Broken named
fault_of_log log_.Failed = KeeperFailed
fault_of_log log_.Memory = Memory
