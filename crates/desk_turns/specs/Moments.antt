-- What holds of a turn at every moment, between any two steps of any threads: it follows of the rule alone.
use Rattle.std.specs.Prelude.{◌≡◌, ◌⊎◌, ◌*◌, ◌<◌, ℕ, List, [], ◌∷◌, Option as Maybe, Some}
use mathlib.Core.Option.{Option, some}
use lib.ListN.{get_elem?}
use Rattle.atomic_table.specs.Table.{State}
use Rattle.desk_turns.specs.Histories.{History, Begins, count, tagged}
use Rattle.desk_turns.specs.Views.{View}
use Rattle.desk_turns.specs.Rule.{Kept}

module _ {S : Type 0} (legal : History → Type 0) (stands : S → History → Type 0) (faults : S → ℕ) where
  -- the state that lies behind a free turn stands for a legal history of this length, and has counted these faults
  pub record HasState (half counted : ℕ) (homes : List (Option (Maybe S))) : Type 0 where
    pub state : S
    pub history : History
    pub at_home : homes ≡ some (Some state) ∷ []
    pub is_state : stands state history
    pub is_legal : legal history
    pub length : count history ≡ half
    pub counts : counted ≡ faults state

  -- while the first word is even, the turn is free, and the state behind it stands for a history of half that length
  abbrev pub FreeTurn : Type 0
  FreeTurn = (s : State (Maybe S) View) → Kept legal stands faults s
      → (half counted : ℕ) → s.words ≡ 2 * half ∷ counted ∷ [] → HasState half counted s.homes

  -- one legal history, which all that any seat has seen begins, and in which each seat added what it knows of, no more
  pub record HasHistory (views : List View) : Type 0 where
    pub history : History
    pub is_legal : legal history
    pub seen : (i : ℕ) (v : View) → get_elem? views i ≡ some v → 0 < v.number → Begins v.seen history
    pub mine : (i : ℕ) (v : View) → get_elem? views i ≡ some v → 0 < v.number
        → tagged v.number history.members ≡ tagged v.number v.seen.members

  abbrev pub OneHistory : Type 0
  OneHistory = (s : State (Maybe S) View) → Kept legal stands faults s → HasHistory s.views

  -- of what any two seats have seen, the one begins the other
  abbrev pub NoFork : Type 0
  NoFork = (s : State (Maybe S) View) → Kept legal stands faults s
      → (i j : ℕ) (v w : View) → get_elem? s.views i ≡ some v → get_elem? s.views j ≡ some w
      → 0 < v.number → 0 < w.number → Begins v.seen w.seen ⊎ Begins w.seen v.seen
