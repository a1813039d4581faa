-- What an entropy in memory gives.
use Rattle.std.specs.Prelude.{ℕ, List, length, nat_lt, not, ◌&&◌, if◌then◌else◌}
use Rattle.octets.specs.Calls.{Calls, after_call, fails_next, with_fault}

-- the bytes that are left to draw, and its calls
pub record Drawing : Type 0 where
  pub left : List ℕ
  pub calls : Calls

-- the calls after one that draws so many bytes: one fault more where more are drawn than are left
abbrev pub after_draw : Drawing → ℕ → Calls
after_draw entropy count =
    (if not (fails_next entropy.calls) && nat_lt (length entropy.left) count
    then with_fault (after_call entropy.calls)
    else after_call entropy.calls)
