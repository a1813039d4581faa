use Rattle.std.proofs.Common.{ℕ, List, take}
use Rattle.std.specs.Prelude.{option_and_then, slice_get}
use Rattle.std.specs.BTreeMap as tree
use Rattle.octets.specs.BytesMap.{by_bytes}
use Rattle.keeper_layers.specs.Overlaying.{FindsLast}
use Rattle.keeper_layers.proofs.indexing.places_of.Given as goal

abbrev pub invariant-loop-at : goal.invariant-loop-at
invariant-loop-at l = (id : List ℕ) → FindsLast (take l.at l.objects) id (option_and_then (slice_get l.objects) (tree.get by_bytes l.places id))
