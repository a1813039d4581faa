use Rattle.std.proofs.Common.{◌≡◌, ℕ, List, take}
use Rattle.std.specs.BTreeMap as tree
use Rattle.octets.specs.BytesMap.{by_bytes}
use Rattle.rule_delegations.specs.Forests.{place_named}
use Rattle.rule_delegations.proofs.links.places_of.Given as goal

abbrev pub invariant-loop-at : goal.invariant-loop-at
invariant-loop-at l = (name : List ℕ) → tree.get by_bytes l.places name ≡ place_named (take l.at l.files) name
