-- What holds of the words, the state's place and what the seats know, at every moment.
use Rattle.std.specs.Prelude.{◌≡◌, ℕ, ◌+◌, ◌*◌, ◌^◌, ◌<◌, ◌≤◌, Bool, true, false, List, [], ◌∷◌, map}
use Rattle.std.specs.Prelude.{Option as Maybe, Some, None}
use mathlib.Core.Option.{Option, none, some}
use lib.ListN.{get_elem?}
use Rattle.atomic_table.specs.Table.{State}
use Rattle.desk_turns.specs.Histories.{History, count, Begins, tagged}
use Rattle.desk_turns.specs.Views.{View}

-- the first word is twice the length of the history, and one more while the turn is taken
abbrev pub word_of : History → Bool → ℕ
word_of log true = 2 * count log + 1
word_of log false = 2 * count log

-- a legal beginning of the history
pub record IsFront (legal : History → Type 0) (log front : History) : Type 0 where
  pub begins : Begins front log
  pub is_legal : legal front

-- the one seat that holds the turn knows the whole history, and the second word
pub record IsHolder (log : History) (taken out : Bool) (holder faults by : ℕ) (v : View) : Type 0 where
  pub is_taken : taken ≡ true
  pub is : by ≡ holder
  pub seen : v.seen ≡ log
  pub is_out : v.out ≡ out
  pub counted : v.faults ≡ faults

module _ (legal : History → Type 0) where
  -- A seat has seen beginnings of the history, in which all entries that it added stand.
  pub record Fits (log : History) (taken out : Bool) (holder faults by : ℕ) (v : View) : Type 0 where
    pub held : v.holds ≡ true → IsHolder log taken out holder faults by v
    pub seen : 0 < v.number → IsFront legal log v.seen
    pub told : 0 < v.number → IsFront legal log v.told
    pub mine : 0 < v.number → tagged v.number log.members ≡ tagged v.number v.seen.members

-- the number of a seat, and whether it makes the others
abbrev pub name_of : View → ℕ × Bool
name_of v = (v.number, v.makes)

-- the first seat alone makes seats: no seat has a greater number, and no entry a greater tag
pub record IsMaker (log : History) (names : List (ℕ × Bool)) (by number : ℕ) : Type 0 where
  pub first : by ≡ 0
  pub greatest : (j : ℕ) (b : ℕ × Bool) → get_elem? names j ≡ some b → b.0 ≤ number
  pub unused : (k : ℕ) → number < k → tagged k log.members ≡ []

-- no two seats have one number
abbrev pub AreDistinct : List (ℕ × Bool) → Type 0
AreDistinct names = (i j : ℕ) (a b : ℕ × Bool) → get_elem? names i ≡ some a → get_elem? names j ≡ some b
    → 0 < a.0 → a.0 ≡ b.0 → i ≡ j

pub record AreApart (log : History) (names : List (ℕ × Bool)) : Type 0 where
  pub apart : AreDistinct names
  pub maker : (i : ℕ) (a : ℕ × Bool) → get_elem? names i ≡ some a → a.1 ≡ true → IsMaker log names i a.0

module _ {S : Type 0} (legal : History → Type 0) (stands : S → History → Type 0) (faults : S → ℕ) where
  -- While the turn is free, the state is at its place, it stands for the history, and the second word is its faults.
  -- While the turn is taken, the place is out with the holder or empty.
  abbrev pub AtHome : History → Bool → Bool → ℕ → List (Option (Maybe S)) → Type 0
  AtHome log false out counted homes = (x : S) × (homes ≡ some (Some x) ∷ []) × stands x log × (counted ≡ faults x)
  AtHome log true true counted homes = homes ≡ none ∷ []
  AtHome log true false counted homes = homes ≡ some None ∷ []

  module _ (log : History) (taken out : Bool) (holder counted : ℕ) where
    -- the history is legal and has room, and the state's place and the views of all seats agree with it
    pub record Agrees (homes : List (Option (Maybe S))) (views : List View) : Type 0 where
      pub home : AtHome log taken out counted homes
      pub is_legal : legal log
      pub room : count log < 2 ^ 62
      pub fits : (by : ℕ) (v : View) → get_elem? views by ≡ some v → Fits legal log taken out holder counted by v
      pub names : AreApart log (map name_of views)

  -- the rule
  abbrev pub Kept : State (Maybe S) View → Type 0
  Kept s =
      (log : History) × (taken : Bool) × (out : Bool) × (holder : ℕ) × (counted : ℕ)
      × (s.words ≡ word_of log taken ∷ counted ∷ [])
      × Agrees log taken out holder counted s.homes s.views
