-- The text of a dossier: a public key, and the bodies of two commits.
use Rattle.std.specs.Prelude.{◌≡◌, ◌≤◌, ◌⊎◌, ◌++◌, ◌∷◌, [], ℕ, List, length, codes, decimal}
use Rattle.hex.specs.Hex.{IsBytes, encode_lower}
use Rattle.git_object.specs.Repository.{largest_body}
use Rattle.evidence.specs.declared.dossiers.Dossier.{Dossier}
use Rattle.evidence.specs.declared.public_bytes.PublicBytes.{PublicBytes}
use Rattle.evidence.specs.declared.public_bytes.PublicBytes.TheVariants.{Lms, Hss}

-- 56 bytes, as an LMS key has, or 60, as an HSS key has (RFC 8554, sections 5.3 and 6.1)
pub record IsPublic (public : List ℕ) : Type 0 where
  pub long : (length public ≡ 56) ⊎ (length public ≡ 60)
  pub bytes : IsBytes public

-- the bytes that were read
abbrev pub bytes_in : PublicBytes → List ℕ
bytes_in (Lms bytes) = bytes
bytes_in (Hss bytes) = bytes

-- the first line
abbrev pub header : List ℕ
header = codes "gittuf-evidence 1\n"

-- the line of the key, in lower-case hexadecimal digits
unfoldable pub key_line : List ℕ → List ℕ
key_line public = codes "key " ++ (encode_lower public ++ 10 ∷ [])

-- a word and the digits of a body's size in bytes, the body, a line feed
unfoldable pub side_text : List ℕ → List ℕ → List ℕ
side_text word body = word ++ (decimal (length body) ++ 10 ∷ (body ++ 10 ∷ []))

abbrev pub left_word : List ℕ
left_word = codes "left "

abbrev pub right_word : List ℕ
right_word = codes "right "

-- the last line
abbrev pub end_line : List ℕ
end_line = codes "end\n"

-- a key, and two bodies within the limit of an object's
pub record IsDossier (dossier : Dossier) : Type 0 where
  pub public : IsPublic dossier.public
  pub left : length dossier.left ≤ largest_body
  pub right : length dossier.right ≤ largest_body

-- the first line, the key, the left body, the right one, the last line
abbrev pub dossier_text : List ℕ → List ℕ → List ℕ → List ℕ
dossier_text public left right =
    header ++ (key_line public ++ (side_text left_word left ++ (side_text right_word right ++ end_line)))

-- the text of the dossier
pub record IsDossierText (dossier : Dossier) (text : List ℕ) : Type 0 where
  pub is : IsDossier dossier
  pub whole : text ≡ dossier_text dossier.public dossier.left dossier.right

-- the text is some dossier's
abbrev pub IsSpelled : List ℕ → Type 0
IsSpelled text = (dossier : Dossier) × IsDossierText dossier text
