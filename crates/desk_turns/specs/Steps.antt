-- What each step on the table tells the seat that makes it.
use Rattle.std.specs.Prelude.{◌≡◌, ℕ, ◌+◌, ◌-◌, ◌*◌, ◌/◌, ◌^◌, ◌<◌, ◌==◌, Bool, true, false, List, [], ◌∷◌}
use Rattle.std.specs.Prelude.{Option as Maybe, Some, None, MatchBool}
use Rattle.atomic_table.specs.Table.{Me, Step}
use Rattle.desk_turns.specs.Histories.{History, Member, count, with_member, Begins, IsTaggedFor, tagged, longer}
use Rattle.desk_turns.specs.Seats.{TurnId}
use Rattle.desk_turns.specs.Views.{View, nobody, having_seen, having_taken, written, freed}

-- a seat of this table, which has two words
abbrev pub IsOf : TurnId → TurnId → Type 0
IsOf table of = (of ≡ table) × (table.words ≡ 2)

module _ {S : Type 0} (legal : History → Type 0) (stands : S → History → Type 0) (faults : S → ℕ) where
  -- the first look, by which nobody becomes the first seat
  pub record HasOpened (before after : Me (Maybe S) View) : Type 0 where
    pub is : after.0 ≡ record (nobody true) { number = 1; seen = after.0.seen; told = after.0.seen }
    pub empty : after.1 ≡ []
    pub is_legal : legal after.0.seen
    pub unused : (k : ℕ) → 0 < k → tagged k after.0.seen.members ≡ []

  abbrev pub Opens : Step (Maybe S) → Me (Maybe S) View → ℕ → Me (Maybe S) View → Type 0
  Opens s me found after = HasOpened me after

  -- a look at the first word: the history so far was seen
  pub record HasLooked (found : ℕ) (before after : Me (Maybe S) View) : Type 0 where
    pub is : after ≡ (having_seen before.0 after.0.seen, before.1)
    pub is_legal : legal after.0.seen
    pub later : Begins before.0.seen after.0.seen
    pub mine : tagged before.0.number after.0.seen.members ≡ tagged before.0.number before.0.seen.members
    pub counted : found / 2 ≡ count after.0.seen
    pub held : before.0.holds ≡ true → after.0.seen ≡ before.0.seen

  abbrev pub Looks : Step (Maybe S) → Me (Maybe S) View → ℕ → Me (Maybe S) View → Type 0
  Looks s me found after = HasLooked found me after

  -- what was told is taken in: the longer of the two histories was seen
  pub record HasMerged (before after : Me (Maybe S) View) : Type 0 where
    pub is : after ≡ (having_seen before.0 (longer before.0.seen before.0.told), before.1)
    pub later : Begins before.0.seen after.0.seen
    pub told : Begins before.0.told after.0.seen
    pub is_legal : legal after.0.seen
    pub mine : tagged before.0.number after.0.seen.members ≡ tagged before.0.number before.0.seen.members

  abbrev pub Merges : Step (Maybe S) → Me (Maybe S) View → ℕ → Me (Maybe S) View → Type 0
  Merges s me found after = HasMerged me after

  -- the turn was free, and now this seat has it, with the state
  pub record HasTurn (word : ℕ) (before : View) (after : Me (Maybe S) View) : Type 0 where
    pub state : S
    pub slot : after.1 ≡ (0, Some state) ∷ []
    pub is_state : stands state after.0.seen
    pub counted : after.0.faults ≡ faults state
    pub is : after.0 ≡ having_taken after.0.seen after.0.faults before
    pub later : Begins before.seen after.0.seen
    pub mine : tagged before.number after.0.seen.members ≡ tagged before.number before.seen.members
    pub length : word ≡ 2 * count after.0.seen
    pub room : count after.0.seen < 2 ^ 62

  abbrev pub Takes : Step (Maybe S) → Me (Maybe S) View → ℕ → Me (Maybe S) View → Type 0
  Takes s me found after = MatchBool (found == s.first) (HasTurn s.first me.0 after) (after ≡ me)

  -- the holder reads the second word, and puts the empty place back
  abbrev pub Reads : Step (Maybe S) → Me (Maybe S) View → ℕ → Me (Maybe S) View → Type 0
  Reads s me found after = (found ≡ me.0.faults) × (after ≡ (record me.0 { out = false }, []))

  -- the holder writes the second word, and takes the empty place
  abbrev pub Writes : Step (Maybe S) → Me (Maybe S) View → ℕ → Me (Maybe S) View → Type 0
  Writes s me stored after = after ≡ (written stored me.0, (0, None) ∷ [])

  -- the seat gave the turn back: the state that it put in stands for what it had seen with one member more, of its own
  -- number or of none
  pub record HasLeft (before after : Me (Maybe S) View) : Type 0 where
    pub state : S
    pub slot : before.1 ≡ (0, Some state) ∷ []
    pub is_state : stands state after.0.seen
    pub member : Member
    pub tag : IsTaggedFor before.0.number member
    pub is : after ≡ (freed (having_seen before.0 (with_member before.0.seen member)), [])

  abbrev pub LeavesWith : Step (Maybe S) → Me (Maybe S) View → ℕ → Me (Maybe S) View → Type 0
  LeavesWith s me stored after = HasLeft me after

  -- the seat gave the turn back, and added nothing
  abbrev pub Leaves : Step (Maybe S) → Me (Maybe S) View → ℕ → Me (Maybe S) View → Type 0
  Leaves s me stored after = after ≡ (freed me.0, [])

-- the seat that makes seats, with its number: it holds nothing, and no seat added any member of what it has seen
pub record IsFirst {S : Type 0} (legal : History → Type 0) (number : ℕ) (me : Me (Maybe S) View) : Type 0 where
  pub is : me ≡ (record (nobody true) { number = number; seen = me.0.seen; told = me.0.seen }, [])
  pub is_legal : legal me.0.seen
  pub unused : (k : ℕ) → 0 < k → tagged k me.0.seen.members ≡ []

module _ {S : Type 0} (stands : S → History → Type 0) (faults : S → ℕ) where
  -- the turn was taken, with this state, and the empty place is home
  pub record HasTaken (state : S) (before : View) (after : Me (Maybe S) View) : Type 0 where
    pub is : after ≡ (record (having_taken after.0.seen (faults state) before) { out = false }, [])
    pub is_state : stands state after.0.seen
    pub later : Begins before.seen after.0.seen
    pub mine : tagged before.number after.0.seen.members ≡ tagged before.number before.seen.members
    pub room : count after.0.seen < 2 ^ 62

  -- the turn was given back with this state, which stands for one member more
  pub record HasGivenBack (state : S) (before after : Me (Maybe S) View) : Type 0 where
    pub member : Member
    pub tag : IsTaggedFor before.0.number member
    pub is_state : stands state after.0.seen
    pub is : after ≡ (freed (written (faults state) (having_seen before.0 (with_member before.0.seen member))), [])
