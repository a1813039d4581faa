use Rattle.std.proofs.Common.{◌≡◌, drop}
use Rattle.serde_json.specs.View.{items_view}
use Rattle.json_fields.specs.Json.{after, each}
use Rattle.json_fields.proofs.shapes.each.Given as goal

abbrev pub invariant-loop-value : goal.invariant-loop-value
invariant-loop-value g l = after l.list (each g.T.FromJson.reads (items_view (drop l.value-index l.values))) ≡ each g.T.FromJson.reads (items_view l.values)
