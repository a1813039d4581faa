-- The text of `log`: one line for each entry, oldest first, and the line that names the break of a log.
use Rattle.std.specs.Prelude.{ℕ, ◌++◌, Bool, true, false, List, length, codes, decimal}
use Rattle.std.specs.List.{flat_map}
use Rattle.hex.specs.Hex.{encode_lower}
use Rattle.rsl_chain.specs.declared.entries.Entry.{Entry}
use Rattle.rsl_chain.specs.declared.entries.EntryBody.{EntryBody}
use Rattle.rsl_chain.specs.declared.entries.EntryBody.TheVariants.{Reference, Annotation}

-- of an annotation: whether it skips, and how many entries it speaks of
abbrev pub count_words : Bool → ℕ → List ℕ
count_words true count = codes " skip " ++ decimal count ++ codes "\n"
count_words false count = codes " note " ++ decimal count ++ codes "\n"

-- of an entry: the reference and its target, or the annotation
abbrev pub body_words : EntryBody → List ℕ
body_words (Reference name target) = codes " ref " ++ name ++ codes " " ++ encode_lower target ++ codes "\n"
body_words (Annotation ids skip message) = count_words skip (length ids)

-- the line of an entry: its number, its id, and what it says
unfoldable pub entry_line : Entry → List ℕ
entry_line entry = codes "entry " ++ decimal entry.number ++ codes " " ++ encode_lower entry.id ++ body_words entry.body

-- the lines of entries
abbrev pub log_text : List Entry → List ℕ
log_text entries = flat_map entry_line entries
