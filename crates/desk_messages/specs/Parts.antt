-- A head at its places in bytes.
use Rattle.std.specs.Prelude.{◌≡◌, ◌∷◌, [], List, ℕ, drop, map, ⊤}
use Rattle.httparse.specs.Grammar.{RequestHead}
use Rattle.httparse.specs.Spans.{IsRequestAt, IsRequestWithin, header_bytes, span_bytes}
use Rattle.httparse.specs.declared.spans.HeaderSpan.{HeaderSpan}
use Rattle.httparse.specs.declared.spans.RequestSpans.{RequestSpans}
use Rattle.desk_messages.specs.Heads.{HasHead}
use Rattle.desk_messages.specs.declared.fields.Named.{Named}
use Rattle.desk_messages.specs.declared.fields.Named.TheVariants.{No, Once, Often}
use Rattle.desk_messages.specs.declared.heads.Front.{Front}
use Rattle.desk_messages.specs.declared.heads.Front.TheVariants.{Head, Cut, Refused}

-- a head stands in front of the bytes, with its parts at these places
pub record IsHeadAt (bytes : List ℕ) (fields : List HeaderSpan) (spans : RequestSpans) : Type 0 where
  pub head : RequestHead
  pub has : HasHead bytes head (drop spans.len bytes)
  pub places : IsRequestAt bytes fields spans head
  pub within : IsRequestWithin bytes fields spans

abbrev pub WhenWhole : Front → (RequestSpans → Type 0) → Type 0
WhenWhole (Head spans) P = P spans
WhenWhole Cut P = ⊤
WhenWhole Refused P = ⊤

abbrev pub WhenCut : Front → Type 0 → Type 0
WhenCut (Head spans) P = ⊤
WhenCut Cut P = P
WhenCut Refused P = ⊤

abbrev pub WhenRefused : Front → Type 0 → Type 0
WhenRefused (Head spans) P = ⊤
WhenRefused Cut P = ⊤
WhenRefused Refused P = P

-- the names and values of fields at these places
abbrev pub pairs_at : List ℕ → List HeaderSpan → List (List ℕ × List ℕ)
pairs_at bytes fields = map (header_bytes bytes) fields

-- there is no value, or the one at this place, or there are more
abbrev pub IsOnly : List ℕ → List (List ℕ) → Named → Type 0
IsOnly bytes values No = values ≡ []
IsOnly bytes values (Once place) = values ≡ span_bytes bytes place ∷ []
IsOnly bytes values Often = (a : List ℕ) × (b : List ℕ) × (rest : List (List ℕ)) × (values ≡ a ∷ b ∷ rest)
