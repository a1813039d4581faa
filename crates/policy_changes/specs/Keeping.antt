-- What is kept beside the names, to find one among them.
use Rattle.std.specs.Prelude.{◌≡◌, ℕ, List, is_some}
use Rattle.std.specs.BTreeMap as tree
use Rattle.std.specs.BTreeMap.{BTreeMap}
use Rattle.octets.specs.BytesMap.{by_bytes}
use Rattle.policy_changes.specs.Names.{has_name}

-- the table has exactly these names
abbrev pub AreKept : List (List ℕ) → BTreeMap (List ℕ) ℕ → Type 0
AreKept names table = (name : List ℕ) → is_some (tree.get by_bytes table name) ≡ has_name names name
