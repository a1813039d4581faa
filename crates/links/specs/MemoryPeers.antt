-- What a peer in memory keeps.
use Rattle.std.specs.Prelude.{ℕ, List, Option}
use Rattle.octets.specs.Calls.{Calls}
use Rattle.edge_io.specs.Told.{Taking}

-- the port of the last connection, what is left to read, what was written and for how many bytes there is room, and
-- the calls of all three kinds
pub record Peering : Type 0 where
  pub port : Option ℕ
  pub left : List ℕ
  pub given : List ℕ
  pub room : ℕ
  pub calls : Calls

-- as a sink
abbrev pub as_sink : Peering → Taking
as_sink peer = record { contents = peer.given; room = peer.room; calls = peer.calls }
