-- What writing a stream does, part by part: a text, a record, a run of records.
use Rattle.std.specs.Prelude.{◌≡◌, ◌<◌, ◌≤◌, ◌+◌, ◌++◌, ◌∷◌, [], ℕ, List, length, Option, Some, None, Result, Ok, Err}
use Rattle.std.specs.List.{AllByRecursion, flat_map}
use Rattle.std.specs.FinMap.{entries}
use Rattle.octets.specs.BytesMap.{BytesMap, entry_after}
use Rattle.octets.specs.Content.{GainsPart, with_end}
use Rattle.git_object.specs.Objects.{Pair}
use Rattle.git_object.specs.Repository.{IsObject, Repository}
use Rattle.keeper_api.specs.declared.keeper_faults.KeeperFault.{KeeperFault}
use Rattle.keeper_api.specs.declared.keeper_faults.KeeperFault.TheVariants as keeper
use Rattle.clone_stream.specs.Streams.{largest_stream}
use Rattle.clone_stream.specs.declared.export_faults.ExportFault.{ExportFault}
use Rattle.clone_stream.specs.declared.export_faults.ExportFault.TheVariants.{Damaged, TooLarge, KeeperFailed}
use Rattle.clone_stream.specs.declared.export_faults.ExportFault.TheVariants.{SinkFailed, Memory}

-- the refusal that a keeper's becomes
abbrev pub fault_of_keeper : KeeperFault → ExportFault
fault_of_keeper keeper.Failed = KeeperFailed
fault_of_keeper keeper.Memory = Memory

-- a whole text went out after so many bytes, and the limit is not passed
pub record IsPut (text : List ℕ) (written : ℕ) (before after : Option (List ℕ)) (now : ℕ) : Type 0 where
  pub gained : after ≡ with_end before text
  pub long : now ≡ written + length text
  pub within : now ≤ largest_stream

-- a text that would pass the limit: nothing of it went out
pub record IsTooLong (text : List ℕ) (written limit : ℕ) (before after : Option (List ℕ)) : Type 0 where
  pub is_limit : limit ≡ largest_stream
  pub past : largest_stream < written + length text
  pub same : after ≡ before

-- a front of a text within the limit went out after so many bytes
pub record IsPartPut (text : List ℕ) (written : ℕ) (before after : Option (List ℕ)) : Type 0 where
  pub part : GainsPart before after text
  pub within : written + length text ≤ largest_stream

-- nothing of a text that is within the limit went out
pub record IsUnput (text : List ℕ) (written : ℕ) (before after : Option (List ℕ)) : Type 0 where
  pub within : written + length text ≤ largest_stream
  pub same : after ≡ before

-- how a text was written after so many bytes
abbrev pub Puts : List ℕ → ℕ → Option (List ℕ) → Option (List ℕ) → Result ℕ ExportFault → Type 0
Puts text written before after (Ok now) = IsPut text written before after now
Puts text written before after (Err (Damaged id)) = ⊥
Puts text written before after (Err (TooLarge limit)) = IsTooLong text written limit before after
Puts text written before after (Err KeeperFailed) = ⊥
Puts text written before after (Err SinkFailed) = IsPartPut text written before after
Puts text written before after (Err Memory) = IsUnput text written before after

-- an entry that is no object of its id
abbrev pub IsDamaged : List ℕ × Pair → Type 0
IsDamaged e = IsObject e.0 e.1 → ⊥

-- no reference is damaged
abbrev pub IsNever : List ℕ × List ℕ → Type 0
IsNever e = ⊥

-- the keeper, where it tells, has this entry after this key
abbrev pub Tells : {X : Type 0} → (Repository → BytesMap X) → Option Repository → Option (List ℕ) → Option (List ℕ × X)
    → Type 0
Tells map_in content last found = (r : Repository) → content ≡ Some r → entry_after (map_in r) last ≡ found

-- the entry after a key is damaged, and stands at this one
pub record IsBadEntry {X : Type 0} (Bad : List ℕ × X → Type 0) (m : BytesMap X) (last : Option (List ℕ))
    (id : List ℕ) : Type 0 where
  pub value : X
  pub bad : Bad (id, value)
  pub after : entry_after m last ≡ Some (id, value)

abbrev pub IsBadNext : {X : Type 0} → (List ℕ × X → Type 0) → (Repository → BytesMap X) → Option Repository
    → Option (List ℕ) → List ℕ → Type 0
IsBadNext Bad map_in content last id = (r : Repository) → content ≡ Some r → IsBadEntry Bad (map_in r) last id

-- the entry after a key, which is not damaged
pub record IsNextEntry {X : Type 0} (Is : List ℕ × X → Type 0) (map_in : Repository → BytesMap X)
    (content : Option Repository) (last : Option (List ℕ)) (e : List ℕ × X) : Type 0 where
  pub is : Is e
  pub tells : Tells map_in content last (Some e)

-- what the keeper answers of the entry after a key
abbrev pub Looks : {X : Type 0} → (List ℕ × X → Type 0) → (List ℕ × X → Type 0) → (Repository → BytesMap X)
    → Option Repository → Option (List ℕ) → Result (Option (List ℕ × X)) ExportFault → Type 0
Looks Is Bad map_in content last (Ok None) = Tells map_in content last None
Looks Is Bad map_in content last (Ok (Some e)) = IsNextEntry Is map_in content last e
Looks Is Bad map_in content last (Err (Damaged id)) = IsBadNext Bad map_in content last id
Looks Is Bad map_in content last (Err (TooLarge limit)) = ⊥
Looks Is Bad map_in content last (Err KeeperFailed) = Unit {0}
Looks Is Bad map_in content last (Err SinkFailed) = ⊥
Looks Is Bad map_in content last (Err Memory) = Unit {0}

-- the record of the entry after a key went out, which stands at this one
pub record IsStep {X : Type 0} (record_of : List ℕ × X → List ℕ) (Is : List ℕ × X → Type 0)
    (map_in : Repository → BytesMap X) (content : Option Repository) (last : Option (List ℕ)) (written : ℕ)
    (before after : Option (List ℕ)) (key : List ℕ) (now : ℕ) : Type 0 where
  pub value : X
  pub next : IsNextEntry Is map_in content last (key, value)
  pub put : IsPut (record_of (key, value)) written before after now

-- the record of the entry after a key would pass the limit
pub record IsPastStep {X : Type 0} (record_of : List ℕ × X → List ℕ) (Is : List ℕ × X → Type 0)
    (map_in : Repository → BytesMap X) (content : Option Repository) (last : Option (List ℕ)) (written limit : ℕ)
    (before after : Option (List ℕ)) : Type 0 where
  pub entry : List ℕ × X
  pub next : IsNextEntry Is map_in content last entry
  pub past : IsTooLong (record_of entry) written limit before after

-- a front of the record of the entry after a key went out
pub record IsPartStep {X : Type 0} (record_of : List ℕ × X → List ℕ) (Is : List ℕ × X → Type 0)
    (map_in : Repository → BytesMap X) (content : Option Repository) (last : Option (List ℕ)) (written : ℕ)
    (before after : Option (List ℕ)) : Type 0 where
  pub entry : List ℕ × X
  pub next : IsNextEntry Is map_in content last entry
  pub put : IsPartPut (record_of entry) written before after

-- the entry after a key is damaged, and nothing went out
pub record IsBadStep {X : Type 0} (Bad : List ℕ × X → Type 0) (map_in : Repository → BytesMap X)
    (content : Option Repository) (last : Option (List ℕ)) (before after : Option (List ℕ)) (id : List ℕ) : Type 0 where
  pub next : IsBadNext Bad map_in content last id
  pub same : after ≡ before

-- there is no entry after a key, and nothing went out
pub record IsLastStep {X : Type 0} (map_in : Repository → BytesMap X) (content : Option Repository)
    (last : Option (List ℕ)) (before after : Option (List ℕ)) : Type 0 where
  pub tells : Tells map_in content last None
  pub same : after ≡ before

-- how the entry after a key was written
abbrev pub Steps : {X : Type 0} → (List ℕ × X → List ℕ) → (List ℕ × X → Type 0) → (List ℕ × X → Type 0)
    → (Repository → BytesMap X) → Option Repository → Option (List ℕ) → ℕ → Option (List ℕ) → Option (List ℕ)
    → Result (Option (List ℕ × ℕ)) ExportFault → Type 0
Steps record_of Is Bad map_in content last written before after (Ok None) = IsLastStep map_in content last before after
Steps record_of Is Bad map_in content last written before after (Ok (Some step)) =
    IsStep record_of Is map_in content last written before after step.0 step.1
Steps record_of Is Bad map_in content last written before after (Err (Damaged id)) =
    IsBadStep Bad map_in content last before after id
Steps record_of Is Bad map_in content last written before after (Err (TooLarge limit)) =
    IsPastStep record_of Is map_in content last written limit before after
Steps record_of Is Bad map_in content last written before after (Err KeeperFailed) = after ≡ before
Steps record_of Is Bad map_in content last written before after (Err SinkFailed) =
    IsPartStep record_of Is map_in content last written before after
Steps record_of Is Bad map_in content last written before after (Err Memory) = after ≡ before

-- the records of all entries went out
pub record IsRun {X : Type 0} (record_of : List ℕ × X → List ℕ) (Is : List ℕ × X → Type 0)
    (map_in : Repository → BytesMap X) (content : Option Repository) (start : ℕ) (before after : Option (List ℕ))
    (now : ℕ) : Type 0 where
  pub text : List ℕ
  pub put : IsPut text start before after now
  pub each : (r : Repository) → content ≡ Some r → AllByRecursion Is (entries (map_in r))
  pub is : (r : Repository) → content ≡ Some r → text ≡ flat_map record_of (entries (map_in r))

-- a text is a front of the records of entries that are not damaged, which are within the limit
pub record IsFrontOf {X : Type 0} (record_of : List ℕ × X → List ℕ) (Is : List ℕ × X → Type 0) (es : List (List ℕ × X))
    (start : ℕ) (text : List ℕ) : Type 0 where
  pub first : List (List ℕ × X)
  pub rest : List (List ℕ × X)
  pub more : List ℕ
  pub whole : es ≡ first ++ rest
  pub each : AllByRecursion Is first
  pub is : flat_map record_of first ≡ text ++ more
  pub within : start + length (flat_map record_of first) ≤ largest_stream

-- the first entry that is damaged stands at this key, and a text is the records of those before it
pub record IsBadAfter {X : Type 0} (record_of : List ℕ × X → List ℕ) (Is Bad : List ℕ × X → Type 0)
    (es : List (List ℕ × X)) (id text : List ℕ) : Type 0 where
  pub first : List (List ℕ × X)
  pub value : X
  pub rest : List (List ℕ × X)
  pub whole : es ≡ first ++ (id, value) ∷ rest
  pub each : AllByRecursion Is first
  pub bad : Bad (id, value)
  pub is : text ≡ flat_map record_of first

-- the records of entries before the first that is damaged pass the limit
pub record IsPastAfter {X : Type 0} (record_of : List ℕ × X → List ℕ) (Is : List ℕ × X → Type 0)
    (es : List (List ℕ × X)) (start : ℕ) : Type 0 where
  pub first : List (List ℕ × X)
  pub rest : List (List ℕ × X)
  pub whole : es ≡ first ++ rest
  pub each : AllByRecursion Is first
  pub past : largest_stream < start + length (flat_map record_of first)

-- a text is the records of the entries before the first whose record would pass the limit; none up to it is damaged
pub record IsPastNext {X : Type 0} (record_of : List ℕ × X → List ℕ) (Is : List ℕ × X → Type 0) (es : List (List ℕ × X))
    (start : ℕ) (text : List ℕ) : Type 0 where
  pub first : List (List ℕ × X)
  pub next : List ℕ × X
  pub rest : List (List ℕ × X)
  pub whole : es ≡ first ++ next ∷ rest
  pub each : AllByRecursion Is (first ++ next ∷ [])
  pub is : text ≡ flat_map record_of first
  pub past : largest_stream < start + (length text + length (record_of next))

-- why a run of records ended before its end, where a text of it went out
abbrev pub HaltsAt : {X : Type 0} → (List ℕ × X → List ℕ) → (List ℕ × X → Type 0) → (List ℕ × X → Type 0)
    → List (List ℕ × X) → ℕ → List ℕ → ExportFault → Type 0
HaltsAt record_of Is Bad es start text (Damaged id) = IsBadAfter record_of Is Bad es id text
HaltsAt record_of Is Bad es start text (TooLarge limit) = (limit ≡ largest_stream) × IsPastAfter record_of Is es start
    × IsPastNext record_of Is es start text
HaltsAt record_of Is Bad es start text KeeperFailed = IsFrontOf record_of Is es start text
HaltsAt record_of Is Bad es start text SinkFailed = IsFrontOf record_of Is es start text
HaltsAt record_of Is Bad es start text Memory = IsFrontOf record_of Is es start text

-- a run of records ended before its end
pub record Halts {X : Type 0} (record_of : List ℕ × X → List ℕ) (Is Bad : List ℕ × X → Type 0)
    (map_in : Repository → BytesMap X) (content : Option Repository) (start : ℕ) (before after : Option (List ℕ))
    (fault : ExportFault) : Type 0 where
  pub text : List ℕ
  pub gained : after ≡ with_end before text
  pub within : start + length text ≤ largest_stream
  pub told : (r : Repository) → content ≡ Some r → HaltsAt record_of Is Bad (entries (map_in r)) start text fault

-- how a run of records was written
abbrev pub Runs : {X : Type 0} → (List ℕ × X → List ℕ) → (List ℕ × X → Type 0) → (List ℕ × X → Type 0)
    → (Repository → BytesMap X) → Option Repository → ℕ → Option (List ℕ) → Option (List ℕ) → Result ℕ ExportFault
    → Type 0
Runs record_of Is Bad map_in content start before after (Ok now) =
    IsRun record_of Is map_in content start before after now
Runs record_of Is Bad map_in content start before after (Err fault) =
    Halts record_of Is Bad map_in content start before after fault

-- objects and references, as the parts of a repository
abbrev pub objects_in : Repository → BytesMap Pair
objects_in r = r.objects

abbrev pub refs_in : Repository → BytesMap (List ℕ)
refs_in r = r.refs
