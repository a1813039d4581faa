-- Where a text is first wrong that is no dossier's: its parts stand one behind the other, and the first that does not
-- stand in its place, or what stands behind the last, is told by where it begins.
use Rattle.std.specs.Prelude.{◌≡◌, ◌≢◌, ◌≤◌, ◌⊎◌, ◌+◌, ◌++◌, [], ℕ, List, length}
use Rattle.git_object.specs.Repository.{largest_body}
use Rattle.evidence.specs.Dossiers.{IsDossierText, IsPublic, IsSpelled, end_line, header, key_line, left_word}
use Rattle.evidence.specs.Dossiers.{right_word, side_text}
use Rattle.evidence.specs.declared.dossiers.Dossier.{Dossier}
use Rattle.evidence.specs.declared.dossier_faults.DossierFault.{DossierFault}
use Rattle.evidence.specs.declared.dossier_faults.DossierFault.TheVariants.{Malformed, Memory}

-- ---- the parts
abbrev pub IsHeader : List ℕ → Type 0
IsHeader part = part ≡ header

pub record IsKeyLine (part : List ℕ) : Type 0 where
  pub public : List ℕ
  pub is_public : IsPublic public
  pub is : part ≡ key_line public

-- a line with a size, and a body of that size with its line feed
pub record IsSide (word part : List ℕ) : Type 0 where
  pub body : List ℕ
  pub small : length body ≤ largest_body
  pub is : part ≡ side_text word body

abbrev pub IsEndLine : List ℕ → Type 0
IsEndLine part = part ≡ end_line

-- ---- the first break
-- no such part stands in front
abbrev pub NoneBegins : (List ℕ → Type 0) → List ℕ → Type 0
NoneBegins IsPart rest = (part more : List ℕ) → IsPart part → rest ≢ part ++ more

-- such a part stands in front, and behind it the text breaks
pub record BreaksBehind (IsPart : List ℕ → Type 0) (Breaks : ℕ → List ℕ → ℕ → Type 0) (place : ℕ)
    (rest : List ℕ) (at : ℕ) : Type 0 where
  pub part : List ℕ
  pub more : List ℕ
  pub is_part : IsPart part
  pub whole : rest ≡ part ++ more
  pub breaks : Breaks (place + length part) more at

-- what begins at a place breaks there where no such part stands in front, and else where what is behind breaks
abbrev pub BreaksIn : (List ℕ → Type 0) → (ℕ → List ℕ → ℕ → Type 0) → ℕ → List ℕ → ℕ → Type 0
BreaksIn IsPart Breaks place rest at =
    (NoneBegins IsPart rest × (at ≡ place)) ⊎ BreaksBehind IsPart Breaks place rest at

-- something stands behind the last line
abbrev pub OverRuns : ℕ → List ℕ → ℕ → Type 0
OverRuns place rest at = (rest ≢ []) × (at ≡ place)

-- from the last line on, from the right body's line, from the left body's, from the key's
abbrev pub BreaksLast : ℕ → List ℕ → ℕ → Type 0
BreaksLast = BreaksIn IsEndLine OverRuns

abbrev pub BreaksRight : ℕ → List ℕ → ℕ → Type 0
BreaksRight = BreaksIn (IsSide right_word) BreaksLast

abbrev pub BreaksLeft : ℕ → List ℕ → ℕ → Type 0
BreaksLeft = BreaksIn (IsSide left_word) BreaksRight

abbrev pub BreaksKey : ℕ → List ℕ → ℕ → Type 0
BreaksKey = BreaksIn IsKeyLine BreaksLeft

-- the text first breaks at this place
abbrev pub IsBreak : List ℕ → ℕ → Type 0
IsBreak text at = BreaksIn IsHeader BreaksKey 0 text at

-- a refusal names the first break; want of memory says nothing
abbrev pub IsBreakAs : List ℕ → DossierFault → Type 0
IsBreakAs text (Malformed at) = IsBreak text at
IsBreakAs text Memory = Unit {0}

-- ---- what holds of them
-- a dossier has one text and a text one dossier; no text is read and refused, and it is refused at one place
pub record OneDossier : Type 0 where
  pub one_text : (d : Dossier) (a b : List ℕ) → IsDossierText d a → IsDossierText d b → a ≡ b
  pub one_dossier : (d e : Dossier) (text : List ℕ) → IsDossierText d text → IsDossierText e text → d ≡ e
  pub apart : (text : List ℕ) (at : ℕ) → IsSpelled text → IsBreak text at → ⊥
  pub one_place : (text : List ℕ) (m n : ℕ) → IsBreak text m → IsBreak text n → m ≡ n
