-- What the forms in memory tell.
use Rattle.std.specs.Prelude.{◌+◌, ◌&&◌, not, ℕ, List, length, nat_lt, if◌then◌else◌}
use Rattle.octets.specs.Calls.{Calls, after_call, fails_next, with_fault}

-- a source in memory: the bytes that are left, and its calls
pub record Giving : Type 0 where
  pub left : List ℕ
  pub calls : Calls

-- a sink in memory: what was written, how many bytes it has room for, and its calls
pub record Taking : Type 0 where
  pub contents : List ℕ
  pub room : ℕ
  pub calls : Calls

-- the calls after a write: one more fault where the piece would pass the room
abbrev pub after_write : Taking → List ℕ → Calls
after_write sink bytes =
    (if not (fails_next sink.calls) && nat_lt sink.room (length sink.contents + length bytes)
    then with_fault (after_call sink.calls)
    else after_call sink.calls)
