-- What holds of the texts of whole numbers of any size.
use Rattle.std.specs.Prelude.{◌≡◌, ◌≤◌, ◌+◌, ◌-◌, ◌*◌, ◌++◌, ◌∷◌, [], ℕ, List}
use Rattle.text_reader.specs.Number.{IsNumber, number_of}

-- texts that write one number are one text
abbrev pub OneSpelling : Type 0
OneSpelling = (a b : List ℕ) → IsNumber a → IsNumber b → number_of a ≡ number_of b → a ≡ b

-- one more digit, from `0` to `9`, adds its own value to ten times the number before it
abbrev pub PlaceValue : Type 0
PlaceValue = (front : List ℕ) (digit : ℕ) → 48 ≤ digit → digit ≤ 57 → number_of (front ++ digit ∷ [])
    ≡ 10 * number_of front + (digit - 48)

-- each number has a text
abbrev pub SomeSpelling : Type 0
SomeSpelling = (n : ℕ) → (text : List ℕ) × IsNumber text × (number_of text ≡ n)
