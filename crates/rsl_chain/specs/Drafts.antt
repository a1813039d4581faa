-- The text of an entry's body, as it is written.
use Rattle.std.specs.Prelude.{◌≡◌, ◌≤◌, ◌<◌, ◌++◌, ◌==◌, ◌-◌, ℕ, Bool, true, false, List, [], ◌∷◌, map, cond, length}
use Rattle.std.specs.Prelude.{Option, Some, None, Ok, codes, decimal}
use Rattle.std.specs.List.{AllByRecursion, flat_map}
use Rattle.base64.specs.Engines.{standard}
use Rattle.base64.specs.GeneralPurpose.{IsBytes, encode_of}
use Rattle.hex.specs.Hex.{encode_lower}
use Rattle.text_reader.specs.Line.{has_byte}
use Rattle.git_object.specs.Ids.{IsId}
use Rattle.git_object.specs.Names.{IsRefName, log_name}
use Rattle.git_object.specs.Objects.{object_id}
use Rattle.git_object.specs.declared.kinds.Kind.TheVariants.{Commit}
use Rattle.rsl_chain.specs.declared.entries.Entry.{Entry}
use Rattle.rsl_chain.specs.declared.entries.EntryBody.{EntryBody}
use Rattle.rsl_chain.specs.declared.entries.EntryBody.TheVariants.{Reference, Annotation}
use Rattle.rsl_chain.specs.Chain.{IsHead}
use Rattle.rsl_chain.specs.Grammar.{message_begin, message_end, tree_line}
use Rattle.rsl_chain.specs.Lines.{lines}
use Rattle.rsl_chain.specs.Reading.{entry_of}
use Rattle.rsl_chain.specs.declared.drafts.Draft.{Draft}
use Rattle.rsl_chain.specs.declared.words.SignatureLine.{SignatureLine}

-- ---- lines to a text

-- a line with its line feed
abbrev pub ended : List ℕ → List ℕ
ended line = line ++ 10 ∷ []

abbrev pub joined : List (List ℕ) → List ℕ
joined ls = flat_map ended ls

-- a character in front of the first line
abbrev pub onto_first_line : ℕ → List (List ℕ) → List (List ℕ)
onto_first_line c [] = (c ∷ []) ∷ []
onto_first_line c (line ∷ more) = (c ∷ line) ∷ more

-- a text in lines of 64 characters, the last of 1 to 64, where the first has room for so many
abbrev pub cut : ℕ → List ℕ → List (List ℕ)
cut room [] = []
cut room (c ∷ text) = cond (room == 1) ((c ∷ []) ∷ cut 64 text) (onto_first_line c (cut (room - 1) text))

-- ---- the lines of an entry

abbrev pub parent_lines : Option (List ℕ) → List (List ℕ)
parent_lines None = []
parent_lines (Some id) = (codes "parent " ++ encode_lower id) ∷ []

-- author and committer are the same text
abbrev pub author_lines : List ℕ → List (List ℕ)
author_lines author = (codes "author " ++ author) ∷ (codes "committer " ++ author) ∷ []

abbrev pub signature_line : SignatureLine → List ℕ
signature_line s = codes "lmssig " ++ (encode_lower s.signer ++ (codes " " ++ encode_of standard s.signature))

abbrev pub signature_lines : Option SignatureLine → List (List ℕ)
signature_lines None = []
signature_lines (Some s) = signature_line s ∷ []

abbrev pub number_line : ℕ → List ℕ
number_line n = codes "number: " ++ decimal n

abbrev pub entry_line : List ℕ → List ℕ
entry_line id = codes "entryID: " ++ encode_lower id

abbrev pub skip_line : Bool → List ℕ
skip_line true = codes "skip: true"
skip_line false = codes "skip: false"

-- an empty message has no part
abbrev pub message_lines : List ℕ → List (List ℕ)
message_lines [] = []
message_lines (b ∷ bytes) = message_begin ∷ (cut 64 (encode_of standard (b ∷ bytes)) ++ message_end ∷ [])

abbrev pub reference_lines : List ℕ → List ℕ → ℕ → List (List ℕ)
reference_lines name target n =
    codes "RSL Reference Entry" ∷ [] ∷ (codes "ref: " ++ name) ∷ (codes "targetID: " ++ encode_lower target)
    ∷ number_line n ∷ []

abbrev pub annotation_lines : List (List ℕ) → Bool → List ℕ → ℕ → List (List ℕ)
annotation_lines ids skip message n =
    codes "RSL Annotation Entry" ∷ [] ∷ (map entry_line ids ++ (skip_line skip ∷ number_line n ∷ message_lines message))

abbrev pub body_lines : EntryBody → ℕ → List (List ℕ)
body_lines (Reference name target) n = reference_lines name target n
body_lines (Annotation ids skip message) n = annotation_lines ids skip message n

abbrev pub head_lines : Option (List ℕ) → List ℕ → List (List ℕ)
head_lines parent author = tree_line ∷ (parent_lines parent ++ author_lines author)

abbrev pub draft_lines : Option SignatureLine → Draft → List (List ℕ)
draft_lines s d = head_lines d.parent d.author ++ (signature_lines s ++ ([] ∷ body_lines d.body d.number))

-- the text that is signed
abbrev pub unsigned_text : Draft → List ℕ
unsigned_text d = joined (draft_lines None d)

-- ---- a line in front of the first empty one

abbrev pub insert_line : List ℕ → List (List ℕ) → List (List ℕ)
insert_line line [] = line ∷ []
insert_line line ([] ∷ more) = line ∷ [] ∷ more
insert_line line ((c ∷ first) ∷ more) = (c ∷ first) ∷ insert_line line more

abbrev pub with_line_in : List ℕ → List ℕ → List ℕ
with_line_in line text = joined (insert_line line (lines text).0) ++ (lines text).1

-- a text with the line of its signature
abbrev pub signed_text_of : List ℕ → SignatureLine → List ℕ
signed_text_of unsigned s = with_line_in (signature_line s) unsigned

-- ---- what is inside the grammar

-- the parts are as their types say
abbrev pub IsParent : Option (List ℕ) → Type 0
IsParent None = Unit {0}
IsParent (Some id) = IsId id

abbrev pub IsValidBody : EntryBody → Type 0
IsValidBody (Reference name target) = IsRefName name × IsId target
IsValidBody (Annotation ids skip message) = AllByRecursion IsId ids × IsBytes message

abbrev pub IsValid : Draft → Type 0
IsValid d = IsParent d.parent × IsValidBody d.body

-- a reference is not the log's own, and an annotation has 1 to 256 ids
abbrev pub IsBody : EntryBody → Type 0
IsBody (Reference name target) = name ≡ log_name → ⊥
IsBody (Annotation ids skip message) = (0 < length ids) × (length ids ≤ 256)

-- a draft inside the grammar, as far as the types of its parts do not say it
pub record IsDraft (d : Draft) : Type 0 where
  pub head : IsHead (record { number = d.number; parent = d.parent })
  pub author : has_byte 10 d.author ≡ false
  pub body : IsBody d.body

-- ---- what is read of what is written

abbrev pub signer_of : Option SignatureLine → Option (List ℕ)
signer_of None = None
signer_of (Some s) = Some s.signer

abbrev pub signature_of : Option SignatureLine → List ℕ
signature_of None = []
signature_of (Some s) = s.signature

-- the entry of a draft, which has this text with its signature
abbrev pub entry_of_draft : Draft → Option SignatureLine → List ℕ → Entry
entry_of_draft d s text = record {
  id = object_id Commit text;
  number = d.number;
  parent = d.parent;
  body = d.body;
  signer = signer_of s;
  signature = signature_of s;
  signed = unsigned_text d;
}

-- ---- what is written is read as its parts

-- without a signature
abbrev pub IsReadBack : Draft → List ℕ → Type 0
IsReadBack d text = entry_of text ≡ Ok (entry_of_draft d None text)

-- and with one that is not empty: as the same of each draft that has the unsigned text
abbrev pub IsReadWith : List ℕ → SignatureLine → List ℕ → Type 0
IsReadWith unsigned s text =
    (d : Draft) → IsDraft d → IsValid d → unsigned ≡ unsigned_text d → 0 < length s.signature
    → entry_of text ≡ Ok (entry_of_draft d (Some s) text)
