-- What "the first line that is not as wanted" says: it is the first after which no entry goes on.
use Rattle.std.specs.Prelude.{◌≡◌, ◌≤◌, ◌<◌, ◌+◌, ◌-◌, ◌++◌, ℕ, List, [], take, length, Err, IsOk}
use Rattle.rsl_chain.specs.Grammar.{start}
use Rattle.rsl_chain.specs.Lines.{lines}
use Rattle.rsl_chain.specs.Reading.{entry_of, judge}
use Rattle.rsl_chain.specs.declared.parts.Parts.{Parts}
use Rattle.rsl_chain.specs.declared.places.Place.{Place}

-- from the place these lines can go on to the end of an entry's body
abbrev pub GoesOn : Place → List (List ℕ) → Type 0
GoesOn p front = (more : List (List ℕ)) × ((parts : Parts) (n : ℕ) → IsOk (judge [] (front ++ more) p parts n))

-- counted from `first`, the lines before line n are the front of an entry's; with line n, where it is there, they are
-- the front of no entry's
pub record IsFirstWrong (p : Place) (ls : List (List ℕ)) (first n : ℕ) : Type 0 where
  pub from : first ≤ n
  pub within : n ≤ first + length ls
  pub before : GoesOn p (take (n - first) ls)
  pub wrong : n < first + length ls → GoesOn p (take (n - first + 1) ls) → ⊥

abbrev pub FirstWrong : Type 0
FirstWrong = (body : List ℕ) (n : ℕ) → entry_of body ≡ Err n → IsFirstWrong start (lines body).0 1 n
