-- Reading a source to its end.
use Rattle.std.specs.Prelude.{◌≡◌, ◌≤◌, ◌+◌, ℕ, Bool, true, false, List, [], length, Option, IfSome}
use Rattle.octets.specs.Content.{with_front}
use Rattle.edge_io.specs.declared.sources.ReadFault.{ReadFault}
use Rattle.edge_io.specs.declared.sources.ReadFault.TheVariants.{TooLong, Failed, Memory}

-- the fault that a source counts
abbrev pub read_failed : ReadFault → Bool
read_failed TooLong = false
read_failed Failed = true
read_failed Memory = false

-- nothing is left, where that is told
abbrev pub IsAtEnd : Option (List ℕ) → Type 0
IsAtEnd left = IfSome left (λ rest. rest ≡ [])

-- more than so many bytes were there, and one more was taken
pub record HasMore (max : ℕ) (before after : Option (List ℕ)) : Type 0 where
  pub bytes : List ℕ
  pub read : before ≡ with_front bytes after
  pub more : length bytes ≡ max + 1

-- at most so many bytes were taken
pub record HasRead (max : ℕ) (before after : Option (List ℕ)) : Type 0 where
  pub bytes : List ℕ
  pub read : before ≡ with_front bytes after
  pub few : length bytes ≤ max
