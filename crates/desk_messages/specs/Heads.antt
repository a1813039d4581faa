-- The head of a request in front of bytes, in httparse's grammar (RFC 9112, sections 3 and 5).
use Rattle.std.specs.Prelude.{◌≤◌, ◌++◌, ℕ, List, length}
use Rattle.httparse.specs.Grammar.{RequestHead, ReadsRequest, print_request}

-- the most bytes of a head
abbrev pub largest_head : ℕ
largest_head = 16384

-- the most fields of a head
abbrev pub most_fields : ℕ
most_fields = 64

-- this head stands in front of the bytes, and this behind it
pub record HasHead (bytes : List ℕ) (head : RequestHead) (rest : List ℕ) : Type 0 where
  pub reads : ReadsRequest bytes head rest
  pub short : length (print_request head) ≤ largest_head
  pub few : length head.fields ≤ most_fields

-- no head stands in front of the bytes
abbrev pub HasNoHead : List ℕ → Type 0
HasNoHead bytes = (head : RequestHead) (rest : List ℕ) → HasHead bytes head rest → ⊥

-- nor will one, whatever follows
abbrev pub NeverHasHead : List ℕ → Type 0
NeverHasHead bytes = (more : List ℕ) → HasNoHead (bytes ++ more)
