-- A seat as its callers see it, and what each call does to it.
use Rattle.std.specs.Prelude.{◌≡◌, ◌+◌, ◌-◌, ℕ, List, [], ◌∷◌, Bool, true, false, Some, slice_get, refl}
use Rattle.std.specs.Coded.{Coded, code_by, coded×, coded_ℕ, coded_bool}
use Rattle.atomic_table.specs.Seated.{TableId, table_id_coded}
use Rattle.desk_turns.specs.Histories.{History, Member, with_member, Begins, IsTaggedFor, history_coded, tagged, longer}

-- which turn it is
abbrev pub TurnId : Type 0
TurnId = TableId

abbrev pub turn_id_coded : Coded TurnId
turn_id_coded = table_id_coded

-- The turn that a seat is of, its number, the history that it has seen, how many faults were counted while it held the
-- turn, whether it holds the turn, and how many faults there were at its last take or leave.
pub record Sitting : Type 0 where
  pub turn : TurnId
  pub number : ℕ
  pub seen : History
  pub own : ℕ
  pub holds : Bool
  pub faults : ℕ

-- the ids of the entries that the seat added, in order: those in the history that it has seen
abbrev pub mine : Sitting → List (List ℕ)
mine s = tagged s.number s.seen.members

-- a seat of this turn that does not hold it
abbrev pub IsIdle : TurnId → Sitting → Type 0
IsIdle turn s = (s.turn ≡ turn) × (s.holds ≡ false)

-- a seat that was just given: it has seen a legal history, in which it added nothing
pub record IsNew (legal : History → Type 0) (turn : TurnId) (number : ℕ) (s : Sitting) : Type 0 where
  pub of : s.turn ≡ turn
  pub counted : s.number ≡ number
  pub is_legal : legal s.seen
  pub mine_none : mine s ≡ []
  pub own_none : s.own ≡ 0
  pub idle : s.holds ≡ false

-- the seats are new, and numbered from 1
abbrev pub AreNew : (History → Type 0) → TurnId → List Sitting → Type 0
AreNew legal turn seats =
    (i : ℕ) (s : Sitting) → slice_get seats i ≡ Some s → IsNew legal turn (i + 1) s

-- the seat has seen more, which is legal, and has added nothing itself
pub record SeesMore (legal : History → Type 0) (old new : Sitting) : Type 0 where
  pub is : new ≡ record old { seen = new.seen }
  pub later : Begins old.seen new.seen
  pub is_legal : legal new.seen
  pub mine_same : mine new ≡ mine old

-- the seat has the turn, with a state of this count of faults, and has seen all that was added until then
pub record TakesTurn (faults : ℕ) (old new : Sitting) : Type 0 where
  pub is : new ≡ record old { seen = new.seen; holds = true; faults = faults }
  pub later : Begins old.seen new.seen
  pub mine_same : mine new ≡ mine old

-- the seat after it gave the turn back with this count of faults, having seen this history
abbrev pub given_back : ℕ → History → Sitting → Sitting
given_back faults seen s =
    record s { seen = seen; own = s.own + (faults - s.faults); holds = false; faults = faults }

module _ {S : Type 0} (stands : S → History → Type 0) (counted : S → ℕ) (state : S) where
  -- the seat gave the turn back with a state that stands for what it had seen and one member more, its own or nobody's
  pub record LeavesWithOne (old new : Sitting) : Type 0 where
    pub member : Member
    pub tag : IsTaggedFor old.number member
    pub is : new ≡ given_back (counted state) (with_member old.seen member) old
    pub is_state : stands state new.seen

-- a seat has taken in another: it has seen the longer of what the two had, which both begin
pub record Joined (legal : History → Type 0) (old from new : Sitting) : Type 0 where
  pub more : SeesMore legal old new
  pub is_longer : new.seen ≡ longer old.seen from.seen
  pub later : Begins from.seen new.seen

-- a seat is told apart as its fields
abbrev pub sitting_coded : Coded Sitting
sitting_coded =
    code_by (TurnId × (ℕ × (History × (ℕ × (Bool × ℕ)))))
    (coded× turn_id_coded (coded× coded_ℕ (coded× history_coded (coded× coded_ℕ (coded× coded_bool coded_ℕ)))))
    (λ s. (s.turn, (s.number, (s.seen, (s.own, (s.holds, s.faults)))))) (λ p. record {
      turn = p.0;
      number = p.1.0;
      seen = p.1.1.0;
      own = p.1.1.1.0;
      holds = p.1.1.1.1.0;
      faults = p.1.1.1.1.1;
    }) (λ _. refl)
