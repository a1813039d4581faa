-- The stream of a keeper's repository, written whole or up to a refusal.
use Rattle.std.specs.Prelude.{◌≡◌, ◌<◌, ◌≤◌, ◌++◌, ◌∷◌, ◌⊎◌, [], ℕ, List, length, Option, Some}
use Rattle.std.specs.List.{AllByRecursion, flat_map}
use Rattle.std.specs.FinMap.{entries}
use Rattle.octets.specs.Content.{with_end}
use Rattle.git_object.specs.Objects.{Pair}
use Rattle.git_object.specs.Repository.{IsObject, Repository}
use Rattle.clone_stream.specs.Streams.{IsOwn, IsStreamText, end_line, header, largest_stream, object_record, ref_record}
use Rattle.clone_stream.specs.Streams.{stream_text}
use Rattle.clone_stream.specs.declared.export_faults.ExportFault.{ExportFault}
use Rattle.clone_stream.specs.declared.export_faults.ExportFault.TheVariants.{Damaged, TooLarge, KeeperFailed}
use Rattle.clone_stream.specs.declared.export_faults.ExportFault.TheVariants.{SinkFailed, Memory}

-- the text of the repository went out, where the keeper tells it, and has at most so many bytes
pub record Exports (content : Option Repository) (before after : Option (List ℕ)) : Type 0 where
  pub text : List ℕ
  pub gained : after ≡ with_end before text
  pub within : length text ≤ largest_stream
  pub told : (r : Repository) → content ≡ Some r → IsStreamText r text

-- the bytes are a front of the text up to objects that are kept undamaged, and it is within the limit up to these
pub record IsObjectsFront (r : Repository) (front : List ℕ) : Type 0 where
  pub first : List (List ℕ × Pair)
  pub rest : List (List ℕ × Pair)
  pub more : List ℕ
  pub whole : entries r.objects ≡ first ++ rest
  pub own : AllByRecursion IsOwn first
  pub is : front ++ more ≡ header ++ flat_map object_record first
  pub within : length (front ++ more) ≤ largest_stream

-- no object is kept damaged, the bytes are a front of the text up to references, and it is within the limit up to these
pub record IsRefsFront (r : Repository) (front : List ℕ) : Type 0 where
  pub first : List (List ℕ × List ℕ)
  pub rest : List (List ℕ × List ℕ)
  pub more : List ℕ
  pub own : AllByRecursion IsOwn (entries r.objects)
  pub whole : entries r.refs ≡ first ++ rest
  pub is : front ++ more ≡ header ++ (flat_map object_record (entries r.objects) ++ flat_map ref_record first)
  pub within : length (front ++ more) ≤ largest_stream

-- no object is kept damaged, the bytes are a front of the text and not all of it, and it is within the limit
pub record IsWholeFront (r : Repository) (front : List ℕ) : Type 0 where
  pub more : List ℕ
  pub less : 0 < length more
  pub own : AllByRecursion IsOwn (entries r.objects)
  pub is : front ++ more ≡ stream_text r
  pub within : length (front ++ more) ≤ largest_stream

-- the bytes are a front of the text, with nothing of the first object that is kept damaged, of what follows it, and
-- of a record that would pass the limit
abbrev pub IsFrontText : Repository → List ℕ → Type 0
IsFrontText r front = IsObjectsFront r front ⊎ (IsRefsFront r front ⊎ IsWholeFront r front)

-- the first object that is kept damaged stands at this id; what comes before its record is within the limit, and
-- is these bytes
pub record IsDamagedAt (r : Repository) (id front : List ℕ) : Type 0 where
  pub first : List (List ℕ × Pair)
  pub pair : Pair
  pub rest : List (List ℕ × Pair)
  pub whole : entries r.objects ≡ first ++ (id, pair) ∷ rest
  pub own : AllByRecursion IsOwn first
  pub damaged : IsObject id pair → ⊥
  pub within : length (header ++ flat_map object_record first) ≤ largest_stream
  pub is : front ≡ header ++ flat_map object_record first

-- the text up to objects that are kept undamaged passes the limit
pub record PassesInObjects (r : Repository) : Type 0 where
  pub first : List (List ℕ × Pair)
  pub rest : List (List ℕ × Pair)
  pub whole : entries r.objects ≡ first ++ rest
  pub own : AllByRecursion IsOwn first
  pub past : largest_stream < length (header ++ flat_map object_record first)

-- no object is kept damaged, and the text passes the limit
pub record PassesAfterObjects (r : Repository) : Type 0 where
  pub own : AllByRecursion IsOwn (entries r.objects)
  pub past : largest_stream < length (stream_text r)

-- the text passes the limit before the first object that is kept damaged
abbrev pub PassesFirst : Repository → Type 0
PassesFirst r = PassesInObjects r ⊎ PassesAfterObjects r

-- the bytes are the text before the record of an object that would pass the limit; no object up to it is damaged
pub record IsPastObject (r : Repository) (front : List ℕ) : Type 0 where
  pub first : List (List ℕ × Pair)
  pub next : List ℕ × Pair
  pub rest : List (List ℕ × Pair)
  pub whole : entries r.objects ≡ first ++ next ∷ rest
  pub own : AllByRecursion IsOwn (first ++ next ∷ [])
  pub is : front ≡ header ++ flat_map object_record first
  pub past : largest_stream < length (front ++ object_record next)

-- no object is kept damaged, and the bytes are the text before the record of a reference that would pass the limit
pub record IsPastRef (r : Repository) (front : List ℕ) : Type 0 where
  pub own : AllByRecursion IsOwn (entries r.objects)
  pub first : List (List ℕ × List ℕ)
  pub next : List ℕ × List ℕ
  pub rest : List (List ℕ × List ℕ)
  pub whole : entries r.refs ≡ first ++ next ∷ rest
  pub is : front ≡ header ++ (flat_map object_record (entries r.objects) ++ flat_map ref_record first)
  pub past : largest_stream < length (front ++ ref_record next)

-- no object is kept damaged, and the bytes are the text before the last line, which would pass the limit
pub record IsPastEnd (r : Repository) (front : List ℕ) : Type 0 where
  pub own : AllByRecursion IsOwn (entries r.objects)
  pub is : front ++ end_line ≡ stream_text r
  pub past : largest_stream < length (front ++ end_line)

-- the bytes are exactly the records before the first that would pass the limit
abbrev pub IsBeforePast : Repository → List ℕ → Type 0
IsBeforePast r front = IsPastObject r front ⊎ (IsPastRef r front ⊎ IsPastEnd r front)

-- why the text of a repository was not written whole, where these bytes of it went out
abbrev pub RefusesText : Repository → List ℕ → ExportFault → Type 0
RefusesText r front (Damaged id) = IsDamagedAt r id front
RefusesText r front (TooLarge limit) = (limit ≡ largest_stream) × PassesFirst r × IsBeforePast r front
RefusesText r front KeeperFailed = IsFrontText r front
RefusesText r front SinkFailed = IsFrontText r front
RefusesText r front Memory = IsFrontText r front

-- bytes within the limit went out, and where the keeper tells, this is why no more did
pub record RefusesExport (content : Option Repository) (before after : Option (List ℕ)) (fault : ExportFault) : Type 0
  where
    pub front : List ℕ
    pub gained : after ≡ with_end before front
    pub within : length front ≤ largest_stream
    pub told : (r : Repository) → content ≡ Some r → RefusesText r front fault
