-- What a seat of the table knows.
use Rattle.std.specs.Prelude.{◌≡◌, ◌+◌, ◌-◌, ℕ, List, [], ◌∷◌, Bool, true, false, None, refl}
use Rattle.std.specs.Coded.{Coded, code_by, coded×, coded_ℕ, coded_bool}
use Rattle.desk_turns.specs.Histories.{History, history_coded}
use Rattle.desk_turns.specs.Seats.{TurnId, Sitting}

-- Seats count from 1: who has number 0 is no seat, and knows nothing. One seat makes the others. `told` is a history
-- that another seat had seen. While the seat holds the turn, `faults` is the count that the second word has, and `out`
-- says that the seat has the state's place too.
pub record View : Type 0 where
  pub number : ℕ
  pub makes : Bool
  pub seen : History
  pub told : History
  pub own : ℕ
  pub holds : Bool
  pub out : Bool
  pub faults : ℕ

abbrev pub nothing : History
nothing = record { opening = record { repository = None; loaded = 0; faults = 0 }; members = [] }

-- nobody; the first of all is to make the seats
abbrev pub nobody : Bool → View
nobody makes = record {
  number = 0;
  makes = makes;
  seen = nothing;
  told = nothing;
  own = 0;
  holds = false;
  out = false;
  faults = 0;
}

-- the seat after a look at the whole history: nothing else of it changed
abbrev pub having_seen : View → History → View
having_seen v h = record v { seen = h }

-- the seat that took the turn with a state of this count, before the empty place goes home
abbrev pub having_taken : History → ℕ → View → View
having_taken seen faults v = record v { seen = seen; holds = true; out = true; faults = faults }

-- the holder that wrote this count of faults and has the state's place again
abbrev pub written : ℕ → View → View
written faults v = record v { out = true; own = v.own + (faults - v.faults); faults = faults }

-- the seat that gave the turn back
abbrev pub freed : View → View
freed v = record v { holds = false; out = false }

-- what callers see of it
abbrev pub sitting : TurnId → View → Sitting
sitting turn v =
    record { turn = turn; number = v.number; seen = v.seen; own = v.own; holds = v.holds; faults = v.faults }

-- a view is told apart as its fields
abbrev pub View_parts : Type 0
View_parts = ℕ × (Bool × (History × (History × (ℕ × (Bool × (Bool × ℕ))))))

abbrev pub parts_coded : Coded View_parts
parts_coded =
    coded× coded_ℕ (coded× coded_bool (coded× history_coded (coded× history_coded
    (coded× coded_ℕ (coded× coded_bool (coded× coded_bool coded_ℕ))))))

abbrev pub view_coded : Coded View
view_coded =
    code_by View_parts parts_coded
    (λ v. (v.number, (v.makes, (v.seen, (v.told, (v.own, (v.holds, (v.out, v.faults)))))))) (λ p. record {
      number = p.0;
      makes = p.1.0;
      seen = p.1.1.0;
      told = p.1.1.1.0;
      own = p.1.1.1.1.0;
      holds = p.1.1.1.1.1.0;
      out = p.1.1.1.1.1.1.0;
      faults = p.1.1.1.1.1.1.1;
    }) (λ _. refl)
