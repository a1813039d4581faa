-- What bytes ask that come behind those of a head.
use Rattle.std.specs.Prelude.{◌≡◌, ◌≤◌, ◌⊎◌, ◌++◌, ℕ, List, Option, length}
use Rattle.octets.specs.Content.{with_front}
use Rattle.edge_io.specs.Read.{IsAtEnd}
use Rattle.desk_messages.specs.declared.requests.Asked.{Asked}

-- bytes were read behind those that had begun, and this is what is asked with all of them. They are as many as were to
-- come, or the input ended
pub record Behind (wanted : List ℕ → Asked) (len : ℕ) (begun : List ℕ) (before after : Option (List ℕ))
    (asks : Asked) : Type 0 where
  pub more : List ℕ
  pub read : before ≡ with_front more after
  pub asks_is : asks ≡ wanted (begun ++ more)
  pub stops : IsAtEnd after ⊎ len ≤ length (begun ++ more)
