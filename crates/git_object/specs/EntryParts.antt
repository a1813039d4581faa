-- An entry of a tree whose name is still part of a text.
use Rattle.std.specs.Prelude.{◌≡◌, ◌≢◌, ℕ, List}
use Rattle.std.specs.List.{AllByRecursion}
use Rattle.std.specs.declared.cmp.Ordering.TheVariants.{Less}
use Rattle.octets.specs.BytesMap.{by_bytes}
use Rattle.git_object.specs.Trees.{Precedes, sort_key}
use Rattle.git_object.specs.declared.modes.Mode.{Mode}
use Rattle.git_object.specs.declared.trees.TreeEntry.{TreeEntry}

abbrev pub entry_of : Mode → List ℕ → List ℕ → TreeEntry
entry_of mode name id = record { mode = mode; name = name; id = id }

-- each may stand before the entry
abbrev pub AllPrecede : List TreeEntry → TreeEntry → Type 0
AllPrecede entries entry = AllByRecursion (λ earlier. Precedes earlier entry) entries

-- each has a smaller key than the entry
abbrev pub AllLess : List TreeEntry → TreeEntry → Type 0
AllLess entries entry = AllByRecursion (λ earlier. by_bytes (sort_key earlier) (sort_key entry) ≡ Less) entries

-- none has the entry's name
abbrev pub AllOther : List TreeEntry → TreeEntry → Type 0
AllOther entries entry = AllByRecursion (λ earlier. earlier.name ≢ entry.name) entries
