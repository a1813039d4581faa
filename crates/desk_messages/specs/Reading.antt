-- How far a request is read.
use Rattle.std.specs.Prelude.{◌≡◌, ◌≢◌, ◌≤◌, ◌⊎◌, ◌++◌, ℕ, Bool, true, false, List, [], Option, Some}
use Rattle.std.specs.Prelude.{Result, Ok, Err, length}
use Rattle.std.specs.Prelude.{nat_lt, if◌then◌else◌}
use Rattle.octets.specs.Content.{with_front}
use Rattle.edge_io.specs.Read.{IsAtEnd}
use Rattle.httparse.specs.Grammar.{RequestHead}
use Rattle.desk_messages.specs.Heads.{HasHead, NeverHasHead}
use Rattle.desk_messages.specs.Lengths.{Says}
use Rattle.desk_messages.specs.Routes.{allowed, page_of}
use Rattle.desk_messages.specs.Asking.{Asks, largest_body}
use Rattle.desk_messages.specs.declared.routes.Page.{Page}
use Rattle.desk_messages.specs.declared.routes.Page.TheVariants as a_page
use Rattle.desk_messages.specs.declared.requests.Asked.{Asked}
use Rattle.desk_messages.specs.declared.requests.Asked.TheVariants as ask
use Rattle.desk_messages.specs.declared.requests.Refusal.{Refusal}

-- how many bytes of a body are read: those of a push that may come
abbrev pub body_len : Result Page Refusal → Option ℕ → ℕ
body_len (Ok a_page.Push) (Some number) = if nat_lt largest_body number then 0 else number
body_len _ _ = 0

-- the head stands there, and all of its body that is read
pub record IsWhole (bytes : List ℕ) : Type 0 where
  pub head : RequestHead
  pub rest : List ℕ
  pub has : HasHead bytes head rest
  pub body : (said : Option ℕ) → Says head said
      → body_len (allowed head.method (page_of head.target)) said ≤ length rest

-- a request is whole, or some bytes came before which no head can stand, whatever follows
abbrev pub HasEnough : List ℕ → Type 0
HasEnough bytes = ((bytes ≢ []) × NeverHasHead bytes) ⊎ IsWhole bytes

-- reading stopped here: at the end of the input, or where enough had come
abbrev pub Stops : List ℕ → Option (List ℕ) → Type 0
Stops bytes after = IsAtEnd after ⊎ HasEnough bytes

-- behind these bytes more were read, and this is what they ask together
pub record Reads (begun : List ℕ) (before after : Option (List ℕ)) (asks : Asked) : Type 0 where
  pub more : List ℕ
  pub read : before ≡ with_front more after
  pub asks_is : Asks (begun ++ more) asks
  pub stops : Stops (begun ++ more) after

-- some bytes were read, or none
abbrev pub HasFront : Option (List ℕ) → Option (List ℕ) → Type 0
HasFront before after = (more : List ℕ) × (before ≡ with_front more after)

-- the link failed
abbrev pub is_link_fault : Asked → Bool
is_link_fault ask.LinkFailed = true
is_link_fault _ = false

abbrev pub asked_as : Asked → Result (Unit {0}) Asked
asked_as asks = Err asks

-- want of memory, or a failed link
abbrev pub IsUnread : Asked → Type 0
IsUnread asks = (asks ≡ ask.Memory) ⊎ (asks ≡ ask.LinkFailed)
