-- Which texts a glob matches.
use Rattle.std.specs.Prelude.{◌≡◌, ◌↔◌, ℕ, ◌==◌, ◌||◌, Bool, true, false, List, [], ◌∷◌, IsTrue, if◌then◌else◌}

-- the rest matches the text here, or after one byte more, and so on
abbrev pub after_star : (List ℕ → Bool) → List ℕ → Bool
after_star rest [] = rest []
after_star rest (y ∷ ys) = rest (y ∷ ys) || after_star rest ys

-- the byte stands for the text's first one, and the rest matches what follows
abbrev pub after_byte : ℕ → (List ℕ → Bool) → List ℕ → Bool
after_byte p rest [] = false
after_byte p rest (y ∷ ys) = (if p == 63 || p == y then rest ys else false)

-- the glob matches the text: `*` stands for any run of bytes, `?` for one, and another byte for itself
abbrev pub matches : List ℕ → List ℕ → Bool
matches [] [] = true
matches [] (y ∷ ys) = false
matches (p ∷ ps) text = (if p == 42 then after_star (matches ps) text else after_byte p (matches ps) text)

-- the same by cases, as a relation
pub data Match : List ℕ → List ℕ → Type 0 where
  -- nothing is left of either
  Ended : Match [] []
  -- the star stands for nothing more
  StarEnds : (ps text : List ℕ) → Match ps text → Match (42 ∷ ps) text
  -- the star stands for one byte more
  StarTakes : (ps : List ℕ) (y : ℕ) (ys : List ℕ) → Match (42 ∷ ps) ys → Match (42 ∷ ps) (y ∷ ys)
  -- a question mark stands for one byte
  Any : (ps : List ℕ) (y : ℕ) (ys : List ℕ) → Match ps ys → Match (63 ∷ ps) (y ∷ ys)
  -- another byte stands for itself
  Same : (ps : List ℕ) (y : ℕ) (ys : List ℕ) → Match ps ys → (y == 42) ≡ false → Match (y ∷ ps) (y ∷ ys)

-- the test is the relation
abbrev pub MatchesWhere : Type 0
MatchesWhere = (glob text : List ℕ) → IsTrue (matches glob text) ↔ Match glob text
