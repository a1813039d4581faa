-- The texts that are read as entries: the lines of a draft, whose committer may be another than its author, with the
-- line of a signature or without one.
use Rattle.std.specs.Prelude.{◌≡◌, ◌<◌, ◌++◌, ℕ, false, List, [], ◌∷◌, length, Option, Some, None, codes}
use Rattle.base64.specs.GeneralPurpose.{IsBytes}
use Rattle.text_reader.specs.Line.{has_byte}
use Rattle.git_object.specs.Ids.{IsId}
use Rattle.git_object.specs.Objects.{object_id}
use Rattle.git_object.specs.declared.kinds.Kind.TheVariants.{Commit}
use Rattle.rsl_chain.specs.Drafts.{IsDraft, IsValid, body_lines, joined, parent_lines, signature_lines, signature_of}
use Rattle.rsl_chain.specs.Drafts.{signer_of}
use Rattle.rsl_chain.specs.Grammar.{tree_line}
use Rattle.rsl_chain.specs.declared.drafts.Draft.{Draft}
use Rattle.rsl_chain.specs.declared.entries.Entry.{Entry}
use Rattle.rsl_chain.specs.declared.words.SignatureLine.{SignatureLine}

-- the lines of the commit's head
abbrev pub lines_above : Draft → List ℕ → List (List ℕ)
lines_above d committer =
    tree_line
    ∷ (parent_lines d.parent ++ (codes "author " ++ d.author) ∷ (codes "committer " ++ committer) ∷ [])

-- all lines of an entry's body
abbrev pub entry_lines : Draft → List ℕ → Option SignatureLine → List (List ℕ)
entry_lines d committer s = lines_above d committer ++ (signature_lines s ++ ([] ∷ body_lines d.body d.number))

abbrev pub entry_text : Draft → List ℕ → Option SignatureLine → List ℕ
entry_text d committer s = joined (entry_lines d committer s)

-- a signature names a key's id and is not empty
abbrev pub IsSigned : Option SignatureLine → Type 0
IsSigned None = Unit {0}
IsSigned (Some s) = IsId s.signer × (0 < length s.signature) × IsBytes s.signature

-- what such a text says; the text without its signature's line is what is signed
abbrev pub entry_said : Draft → List ℕ → Option SignatureLine → Entry
entry_said d committer s = record {
  id = object_id Commit (entry_text d committer s);
  number = d.number;
  parent = d.parent;
  body = d.body;
  signer = signer_of s;
  signature = signature_of s;
  signed = entry_text d committer None;
}

-- the body is the text of a draft inside the grammar, and the entry is what it says
pub record IsTextOf (body : List ℕ) (entry : Entry) : Type 0 where
  pub draft : Draft
  pub committer : List ℕ
  pub signature : Option SignatureLine
  pub inside : IsDraft draft
  pub valid : IsValid draft
  pub one_line : has_byte 10 committer ≡ false
  pub signed : IsSigned signature
  pub text : body ≡ entry_text draft committer signature
  pub says : entry ≡ entry_said draft committer signature
