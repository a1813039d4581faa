-- What stands in front of a text, part by part.
use Rattle.std.specs.Prelude.{◌≡◌, ◌≤◌, ◌++◌, ℕ, List, length}
use Rattle.git_object.specs.Repository.{largest_body}
use Rattle.evidence.specs.Dossiers.{IsPublic, dossier_text, end_line, key_line, left_word, right_word, side_text}

-- the right body, and behind it the last line
pub record HasRight (text right : List ℕ) : Type 0 where
  pub small : length right ≤ largest_body
  pub whole : text ≡ side_text right_word right ++ end_line

-- the left body, and behind it the right one
pub record HasLeft (text left right : List ℕ) : Type 0 where
  pub small : length left ≤ largest_body
  pub rest : List ℕ
  pub has_right : HasRight rest right
  pub whole : text ≡ side_text left_word left ++ rest

-- the key, and behind it both bodies
pub record HasKey (text public left right : List ℕ) : Type 0 where
  pub is_public : IsPublic public
  pub rest : List ℕ
  pub has_left : HasLeft rest left right
  pub whole : text ≡ key_line public ++ rest

-- the parts of a whole text
pub record HasParts (text public left right : List ℕ) : Type 0 where
  pub is_public : IsPublic public
  pub left_small : length left ≤ largest_body
  pub right_small : length right ≤ largest_body
  pub whole : text ≡ dossier_text public left right
