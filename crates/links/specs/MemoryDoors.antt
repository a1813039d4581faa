-- What a door in memory keeps.
use Rattle.std.specs.Prelude.{ℕ, List}
use Rattle.octets.specs.Calls.{Calls}
use Rattle.edge_io.specs.Told.{Giving, Taking}
use Rattle.links.specs.declared.link.Link.{Link}

-- the links that are still to come, those that are handed back, how many are out, and its calls
pub record Keeping : Type 0 where
  pub waiting : List (Link Giving Taking)
  pub back : List (Link Giving Taking)
  pub out : ℕ
  pub calls : Calls
