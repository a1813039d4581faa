-- Git's tree object: entries one after the other, in Git's order, each name once.
use Rattle.std.specs.Prelude.{◌≡◌, ◌≢◌, ◌++◌, ◌∷◌, [], ℕ, List, length, codes, false}
use Rattle.std.specs.List.{AllByRecursion, flat_map}
use Rattle.std.specs.declared.cmp.Ordering.TheVariants.{Less}
use Rattle.octets.specs.BytesMap.{by_bytes}
use Rattle.text_reader.specs.Line.{has_byte}
use Rattle.git_object.specs.Ids.{IsId}
use Rattle.git_object.specs.Modes.{mode_text, key_end}
use Rattle.git_object.specs.declared.trees.TreeEntry.{TreeEntry}
use Rattle.git_object.specs.declared.trees.Tree.{Tree}

-- a name: not empty, without slash and zero byte, and none of the three that Git keeps to itself
pub record IsEntryName (name : List ℕ) : Type 0 where
  pub some : name ≢ []
  pub no_slash : has_byte 47 name ≡ false
  pub no_zero : has_byte 0 name ≡ false
  pub no_dot : name ≢ codes "."
  pub no_dots : name ≢ codes ".."
  pub no_git : name ≢ codes ".git"

-- an entry's text: mode, space, name, zero byte, the 32 bytes of the id
unfoldable pub entry_text : TreeEntry → List ℕ
entry_text entry = mode_text entry.mode ++ 32 ∷ (entry.name ++ 0 ∷ entry.id)

abbrev pub entries_text : List TreeEntry → List ℕ
entries_text entries = flat_map entry_text entries

-- what entries are sorted by: the name, a directory's as if it ended in a slash
abbrev pub sort_key : TreeEntry → List ℕ
sort_key entry = entry.name ++ key_end entry.mode

-- the first may stand before the second: its key is smaller, and its name another
pub record Precedes (first second : TreeEntry) : Type 0 where
  pub rising : by_bytes (sort_key first) (sort_key second) ≡ Less
  pub other : first.name ≢ second.name

-- each entry may stand before each later one
abbrev pub AreInOrder : List TreeEntry → Type 0
AreInOrder [] = Unit {0}
AreInOrder (entry ∷ entries) = AllByRecursion (Precedes entry) entries × AreInOrder entries

-- entries as a tree has them: well named, sorted, each name once
pub record AreWellFormed (entries : List TreeEntry) : Type 0 where
  pub named : AllByRecursion (λ entry. IsEntryName entry.name) entries
  pub ordered : AreInOrder entries

-- the same, each with an id
pub record AreEntries (entries : List TreeEntry) : Type 0 where
  pub formed : AreWellFormed entries
  pub ids : AllByRecursion (λ entry. IsId entry.id) entries

-- the body is that of the tree
pub record IsTreeText (tree : Tree) (body : List ℕ) : Type 0 where
  pub entries_are : AreEntries tree.entries
  pub text : body ≡ entries_text tree.entries

-- entries stand in front of the body, and the rest follows
pub record IsTreeFront (entries : List TreeEntry) (body rest : List ℕ) : Type 0 where
  pub entries_are : AreEntries entries
  pub front : body ≡ entries_text entries ++ rest

-- an entry that may stand alone begins the body
pub record HasFirstEntry (body : List ℕ) : Type 0 where
  pub first : TreeEntry
  pub rest : List ℕ
  pub front : IsTreeFront (first ∷ []) body rest

-- after the longest front of entries something is left at this place that is no further entry
pub record IsTreeFault (body : List ℕ) (at : ℕ) : Type 0 where
  pub entries : List TreeEntry
  pub rest : List ℕ
  pub front : IsTreeFront entries body rest
  pub place : at ≡ length (entries_text entries)
  pub left : rest ≢ []
  pub no_entry : (entry : TreeEntry) (more : List ℕ) → AreEntries (entries ++ entry ∷ [])
      → rest ≢ entry_text entry ++ more
