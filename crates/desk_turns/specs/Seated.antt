-- The seat that callers have, over its part of the table.
use Rattle.std.specs.Prelude.{◌≡◌, ℕ, ◌<◌, Bool, true, false, List, [], ◌∷◌}
use Rattle.desk_turns.specs.Seats.{Sitting}
use Rattle.desk_turns.specs.Views.{View, nobody, sitting}
use Rattle.desk_turns.specs.declared.seats.Seat.TheInside.{Inside}

-- the view of a badge, which has one unless it is blank
abbrev pub view_in : List View → View
view_in [] = nobody false
view_in (v ∷ vs) = v

-- what callers see of a seat
abbrev pub sitting_of : Inside → Sitting
sitting_of s = sitting s.badge.table_id (view_in s.badge.views)

-- its badge has a view with its number, and the state's place is not with it
pub record IsSeat (s : Inside) : Type 0 where
  pub one : s.badge.views ≡ view_in s.badge.views ∷ []
  pub number : s.number ≡ (view_in s.badge.views).number
  pub some : 0 < s.number
  pub home : (view_in s.badge.views).out ≡ false
