use Rattle.std.proofs.Common.{◌≡◌, drop}
use Rattle.serde_json.specs.View.{items_view}
use Rattle.json_fields.specs.Json.{after, each}
use Rattle.rule_files.specs.Shapes.{rule_of}
use Rattle.rule_files.proofs.shapes.each_rule.Given as goal

abbrev pub invariant-values : goal.invariant-values
invariant-values l = after l.rules (each (rule_of l.schema) (items_view (drop l.value-index l.values))) ≡ each (rule_of l.schema) (items_view l.values)
