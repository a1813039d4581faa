-- The time in an author's text, which Git ends in a space, the seconds since 1970, a space and a time zone.
use Rattle.std.specs.Prelude.{◌≡◌, ◌≤◌, ◌==◌, ◌&&◌, ◌⊎◌, ◌++◌, ◌∷◌, [], ℕ, false, List, Option, Some, None, cond}
use Rattle.std.specs.Prelude.{decimal, nat_le, if◌then◌else◌, option_and_then}
use Rattle.text_reader.specs.Line.{has_byte}
use Rattle.text_reader.specs.Number.{number_of}
use Rattle.rsl_chain.specs.Lines.{is_number}

-- the last second of the year 9999
abbrev pub most_seconds : ℕ
most_seconds = 253402300799

-- nothing, or what ends in a space: behind it a word begins
abbrev pub BeginsWord : List ℕ → Type 0
BeginsWord front = (front ≡ []) ⊎ ((who : List ℕ) × (front ≡ who ++ 32 ∷ []))

-- the last word of the text but one is this number: of decimal digits without a sign or a leading zero
pub record SaysTime (author : List ℕ) (seconds : ℕ) : Type 0 where
  pub front : List ℕ
  pub zone : List ℕ
  pub is : author ≡ front ++ (decimal seconds ++ 32 ∷ zone)
  pub begins : BeginsWord front
  pub last : has_byte 32 zone ≡ false
  pub within : seconds ≤ most_seconds

-- a byte in front of the first word
abbrev pub onto_word : ℕ → List (List ℕ) → List (List ℕ)
onto_word b [] = []
onto_word b (word ∷ more) = (b ∷ word) ∷ more

-- the words of a text, which spaces part: one more than there are spaces, and an empty one between two
abbrev pub words : List ℕ → List (List ℕ)
words [] = [] ∷ []
words (b ∷ text) = cond (b == 32) ([] ∷ words text) (onto_word b (words text))

-- of a word and those behind it, of which this is the last but one
abbrev pub or_behind : List ℕ → List (List ℕ) → Option (List ℕ) → Option (List ℕ)
or_behind word [] behind = None
or_behind word (last ∷ []) behind = Some word
or_behind word (next ∷ last ∷ more) behind = behind

-- the last but one of some words
abbrev pub last_but_one : List (List ℕ) → Option (List ℕ)
last_but_one [] = None
last_but_one (word ∷ more) = or_behind word more (last_but_one more)

-- the seconds that a word writes, in decimal digits without a sign or a leading zero
unfoldable pub seconds_of : List ℕ → Option ℕ
seconds_of text = if is_number text && nat_le (number_of text) most_seconds then Some (number_of text) else None

-- the time that a text says, if it says one
abbrev pub time_of : List ℕ → Option ℕ
time_of author = option_and_then seconds_of (last_but_one (words author))
