-- What the fields of a head say of the length of the body.
use Rattle.std.specs.Prelude.{◌≡◌, ◌<◌, ◌^◌, ℕ, List, [], ◌∷◌, Option, Some, None, codes, decimal, map}
use Rattle.std.specs.Prelude.{bytes_eq, if◌then◌else◌, Bool}
use Rattle.std.specs.Char.{to_ascii_lowercase}
use Rattle.httparse.specs.Grammar.{RequestHead}
use Rattle.httparse.specs.Spans.{name_and_value}

-- whether two names of fields are the same but for the case of letters
abbrev pub same_name : List ℕ → List ℕ → Bool
same_name a b = bytes_eq (map to_ascii_lowercase a) (map to_ascii_lowercase b)

-- the values of the fields of this name, in their order
abbrev pub values_of : List ℕ → List (List ℕ × List ℕ) → List (List ℕ)
values_of name [] = []
values_of name (field ∷ fields) =
    (if same_name name field.0 then field.1 ∷ values_of name fields else values_of name fields)

-- the length that these values of `content-length` give: none, or the one that there is, which is a number below 2^63
abbrev pub Gives : List (List ℕ) → Option ℕ → Type 0
Gives [] said = said ≡ None
Gives (value ∷ []) said = (number : ℕ) × (number < 2 ^ 63) × (value ≡ decimal number) × (said ≡ Some number)
Gives (value ∷ other ∷ values) said = ⊥

-- fields say that the body has this length, where one is said, and no other coding than its bytes
pub record SaysIn (fields : List (List ℕ × List ℕ)) (said : Option ℕ) : Type 0 where
  pub plain : values_of (codes "transfer-encoding") fields ≡ []
  pub length : Gives (values_of (codes "content-length") fields) said

-- the fields of a head do
abbrev pub Says : RequestHead → Option ℕ → Type 0
Says head said = SaysIn (map name_and_value head.fields) said
