-- What the laws of this crate say of the refusals of an input.
use Rattle.std.specs.Prelude.{◌≡◌, ◌≤◌, ◌⊎◌, ℕ, List, length}
use Rattle.git_object.specs.Repository.{Repository}
use Rattle.clone_stream.specs.Deciding.{Decides}
use Rattle.clone_stream.specs.Streams.{IsStreamText, largest_stream}
use Rattle.clone_stream.specs.declared.stream_faults.StreamFault.{StreamFault}

-- an input is a stream within the limit or is refused: never both, and in one way alone
pub record OneRefusal : Type 0 where
  pub one : (input : List ℕ) (a b : StreamFault) → Decides input a → Decides input b → a ≡ b
  pub apart : (input : List ℕ) (r : Repository) (a : StreamFault) → IsStreamText r input → length input ≤ largest_stream
      → Decides input a → ⊥
  pub some : (input : List ℕ) → ((r : Repository) × IsStreamText r input × (length input ≤ largest_stream))
      ⊎ ((a : StreamFault) × Decides input a)
