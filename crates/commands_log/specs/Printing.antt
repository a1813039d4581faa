-- Printing the entries at given ids, step by step.
use Rattle.std.specs.Prelude.{◌≡◌, ◌⊎◌, ◌++◌, ℕ, List, [], ◌∷◌, length, take, Option, Some, None, Result, Ok, Err}
use Rattle.octets.specs.Content.{GainsPart, with_end}
use Rattle.git_object.specs.Repository.{Repository}
use Rattle.rsl_chain.specs.declared.entries.Entry.{Entry}
use Rattle.rsl_chain.specs.Logs.{entry_at}
use Rattle.rsl_chain.specs.Histories.{AreEntriesAt}
use Rattle.commands_log.specs.Lines.{entry_line, log_text}
use Rattle.commands_log.specs.declared.faults.LogCommandFault.{LogCommandFault}
use Rattle.commands_log.specs.declared.faults.LogCommandFault.TheVariants.{Broken, KeeperFailed, SinkFailed, Memory}

-- the piece gains the line of the entry at an id
pub record Gathers (held : Option Repository) (id piece piece_now : List ℕ) : Type 0 where
  pub entry : Entry
  pub gained : piece_now ≡ piece ++ entry_line entry
  pub told : (r : Repository) → held ≡ Some r → entry_at r id ≡ Some entry

-- the piece stays, or it goes out whole
abbrev pub Releases : Option (List ℕ) → Option (List ℕ) → List ℕ → List ℕ → Type 0
Releases printed printed_now piece piece_now =
    ((printed_now ≡ printed) × (piece_now ≡ piece)) ⊎ ((printed_now ≡ with_end printed piece) × (piece_now ≡ []))

-- where the store tells, these are entries at the first of these ids
abbrev pub AreFirst : Option Repository → List (List ℕ) → List Entry → Type 0
AreFirst held ids first = (r : Repository) → held ≡ Some r → (n : ℕ) × (more : List Entry)
    × AreEntriesAt r (take n ids) (first ++ more)

-- the lines of the entries at these ids were printed
pub record PrintsAll (ids : List (List ℕ)) (held : Option Repository) (printed printed_now : Option (List ℕ)) : Type 0
  where
    pub entries : List Entry
    pub gained : printed_now ≡ with_end printed (log_text entries)
    pub many : length entries ≡ length ids
    pub told : (r : Repository) → held ≡ Some r → AreEntriesAt r ids entries

-- the lines of the entries at the first of these ids were printed
pub record PrintsSome (ids : List (List ℕ)) (held : Option Repository) (printed printed_now : Option (List ℕ)) : Type 0
  where
    pub first : List Entry
    pub gained : printed_now ≡ with_end printed (log_text first)
    pub told : AreFirst held ids first

-- a front of these lines, and not all of them
pub record PrintsCut (ids : List (List ℕ)) (held : Option Repository) (printed printed_now : Option (List ℕ)) : Type 0
  where
    pub first : List Entry
    pub part : GainsPart printed printed_now (log_text first)
    pub told : AreFirst held ids first

-- where the store tells, no entry stands at one of these ids
abbrev pub MissesOne : Option Repository → List (List ℕ) → Type 0
MissesOne held ids = (r : Repository) → held ≡ Some r → (front : List (List ℕ)) × (id : List ℕ) × (rest : List (List ℕ))
    × (ids ≡ front ++ id ∷ rest) × (entry_at r id ≡ None)

-- what printing the entries at these ids comes to
abbrev pub PrintsAt : List (List ℕ) → Option Repository → Option (List ℕ) → Option (List ℕ)
    → Result (Unit {0}) LogCommandFault → Type 0
PrintsAt ids held printed printed_now (Ok done) = PrintsAll ids held printed printed_now
PrintsAt ids held printed printed_now (Err (Broken id)) = PrintsSome ids held printed printed_now × MissesOne held ids
PrintsAt ids held printed printed_now (Err KeeperFailed) = PrintsSome ids held printed printed_now
PrintsAt ids held printed printed_now (Err SinkFailed) = PrintsCut ids held printed printed_now
PrintsAt ids held printed printed_now (Err Memory) = PrintsSome ids held printed printed_now
