-- What a clock in memory gives.
use Rattle.std.specs.Prelude.{◌==◌, ◌&&◌, ℕ, List, length, not, if◌then◌else◌}
use Rattle.octets.specs.Calls.{Calls, after_call, fails_next, with_fault}

-- the moments that are left to give, and its calls
pub record Telling : Type 0 where
  pub left : List ℕ
  pub calls : Calls

-- the calls after one for the time: one fault more where no moment is left
abbrev pub after_asking : Telling → Calls
after_asking clock =
    (if not (fails_next clock.calls) && (length clock.left == 0)
    then with_fault (after_call clock.calls)
    else after_call clock.calls)
