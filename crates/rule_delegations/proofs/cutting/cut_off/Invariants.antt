use Rattle.std.proofs.Common.{◌≡◌, ℕ, true, List}
use Rattle.std.specs.Prelude.{◌↔◌}
use Rattle.std.specs.BTreeSet.{contains}
use Rattle.octets.specs.BytesMap.{by_bytes}
use Rattle.rule_delegations.proofs.Offcuts.{IsOff}
use Rattle.rule_delegations.proofs.cutting.cut_off.Given as goal

abbrev pub invariant-loop-at : goal.invariant-loop-at
invariant-loop-at l = (name : List ℕ) → (contains by_bytes l.names name ≡ true) ↔ IsOff l.files l.marks l.at name
