-- The text of a push: objects by rising ids, and the entry that one of them is.
use Rattle.std.specs.Prelude.{◌≡◌, ◌≤◌, ◌++◌, ◌∷◌, [], ℕ, List, Bool, Option, Some, codes, length, map}
use Rattle.std.specs.List.{find, flat_map}
use Rattle.std.specs.List.Sorted.{IsStrictlySortedBy}
use Rattle.std.specs.Option.{option_and_then}
use Rattle.std.specs.Str.{bytes_eq}
use Rattle.hex.specs.Hex.{encode_lower}
use Rattle.octets.specs.BytesMap.{by_bytes}
use Rattle.git_object.specs.Ids.{IsId}
use Rattle.git_object.specs.Objects.{Pair, pair_id}
use Rattle.rsl_chain.specs.declared.entries.Entry.{Entry}
use Rattle.rsl_chain.specs.Logs.{entry_of_pair}
use Rattle.clone_stream.specs.Fronts.{AreRecords}
use Rattle.clone_stream.specs.Streams.{object_record}
use Rattle.pushes.specs.declared.pushed.Push.{Push}

-- the first line
abbrev pub header : List ℕ
header = codes "gittuf-push 1\n"

-- the line of the entry's id
unfoldable pub entry_line : List ℕ → List ℕ
entry_line id = codes "entry " ++ encode_lower id

-- the last line
abbrev pub end_line : List ℕ
end_line = codes "end\n"

-- the most bytes that a push may have: 64 MiB
abbrev pub largest_push : ℕ
largest_push = 67108864

-- a record of an object under its own id
abbrev pub own_record : Pair → List ℕ
own_record pair = object_record (pair_id pair, pair)

-- the text of these objects and the entry's id
abbrev pub push_text : List Pair → List ℕ → List ℕ
push_text objects id = header ++ (flat_map own_record objects ++ (entry_line id ++ 10 ∷ end_line))

abbrev pub has_own_id : List ℕ → Pair → Bool
has_own_id id pair = bytes_eq (pair_id pair) id

-- the object of an id among these
abbrev pub object_in : List Pair → List ℕ → Option Pair
object_in objects id = find (has_own_id id) objects

-- the entry that an object is
abbrev pub entry_of_object : Pair → Option Entry
entry_of_object pair = entry_of_pair (pair_id pair) pair.kind pair.body

-- the entry that the object of an id is
abbrev pub entry_in : List Pair → List ℕ → Option Entry
entry_in objects id = option_and_then entry_of_object (object_in objects id)

-- the ids rise, so that no id stands twice
abbrev pub AreRising : List Pair → Type 0
AreRising objects = IsStrictlySortedBy by_bytes (map pair_id objects)

-- these are the objects, by rising ids and each within the limit, with their ids
pub record AreOwn (es : List (List ℕ × Pair)) (objects : List Pair) : Type 0 where
  pub are : AreRecords es []
  pub objects_are : objects ≡ map (λ (e : List ℕ × Pair). e.1) es

-- the objects stand by rising ids, and one of them is read as the entry: nothing is asked of how long the text is
pub record IsSpelled (push : Push) : Type 0 where
  pub es : List (List ℕ × Pair)
  pub own : AreOwn es push.objects
  pub entry : entry_in push.objects push.entry.id ≡ Some push.entry
  pub id : IsId push.entry.id

-- a push that has a text
pub record IsPush (push : Push) : Type 0 where
  pub spelled : IsSpelled push
  pub short : length (push_text push.objects push.entry.id) ≤ largest_push

-- the text of the push
pub record IsPushText (push : Push) (text : List ℕ) : Type 0 where
  pub is : IsPush push
  pub text_is : text ≡ push_text push.objects push.entry.id
