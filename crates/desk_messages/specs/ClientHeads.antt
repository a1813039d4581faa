-- The head of a reply in front of bytes, in httparse's grammar (RFC 9112, sections 4 and 5), and the length that it
-- says.
use Rattle.std.specs.Prelude.{◌≡◌, ◌≤◌, ◌∷◌, [], ℕ, List, codes, decimal, drop, length, map}
use Rattle.httparse.specs.Grammar.{ReadsResponse, ResponseHead, print_response}
use Rattle.httparse.specs.Spans.{IsResponseAt, IsResponseWithin, name_and_value}
use Rattle.httparse.specs.declared.spans.HeaderSpan.{HeaderSpan}
use Rattle.httparse.specs.declared.spans.ResponseSpans.{ResponseSpans}
use Rattle.desk_messages.specs.Lengths.{values_of}

-- the most bytes of a head
abbrev pub largest_head : ℕ
largest_head = 16384

-- the most fields of a head
abbrev pub most_fields : ℕ
most_fields = 64

-- the most bytes of a body
abbrev pub largest_body : ℕ
largest_body = 4096

-- this head stands in front of the bytes, and this behind it
pub record HasHead (bytes : List ℕ) (head : ResponseHead) (rest : List ℕ) : Type 0 where
  pub reads : ReadsResponse bytes head rest
  pub short : length (print_response head) ≤ largest_head
  pub few : length head.fields ≤ most_fields

-- no head stands in front of the bytes
abbrev pub HasNoHead : List ℕ → Type 0
HasNoHead bytes = (head : ResponseHead) (rest : List ℕ) → HasHead bytes head rest → ⊥

-- one field says a length, and this one
abbrev pub SaysIn : List (List ℕ × List ℕ) → ℕ → Type 0
SaysIn fields len = values_of (codes "content-length") fields ≡ decimal len ∷ []

-- the head says that the body has this length, which is one that a body may have
pub record Says (head : ResponseHead) (len : ℕ) : Type 0 where
  pub said : SaysIn (map name_and_value head.fields) len
  pub within : len ≤ largest_body

-- ---- at its places in bytes

-- a head stands in front of the bytes, with its parts at these places
pub record IsHeadAt (bytes : List ℕ) (fields : List HeaderSpan) (spans : ResponseSpans) : Type 0 where
  pub head : ResponseHead
  pub has : HasHead bytes head (drop spans.len bytes)
  pub places : IsResponseAt bytes fields spans head
  pub within : IsResponseWithin bytes fields spans
