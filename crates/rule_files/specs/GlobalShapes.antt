-- Global rules as they are written, in JSON, before anything is judged.
use Rattle.std.specs.Prelude.{List, Option, Some, None, codes, option_and_then, if◌then◌else◌}
use Rattle.std.specs.Option.{option_map}
use Rattle.serde_json.specs.Data.{Data}
use Rattle.serde_json.specs.Find.{as_str}
use Rattle.json_fields.specs.Json.{each_at, text_at}
use Rattle.root_metadata.specs.Shapes.{is_text, threshold_of}
use Rattle.rule_files.specs.declared.global_raw.RawGlobalRule.{RawGlobalRule}
use Rattle.rule_files.specs.declared.global_rules.GlobalKind.{GlobalKind}
use Rattle.rule_files.specs.declared.global_rules.GlobalKind.TheVariants.{NoRewind, Threshold}

-- what a rule asks: `threshold` with its number, of 32 bits, or `no-rewind`
abbrev pub kind_of : Data → Option GlobalKind
kind_of d =
    (if is_text (codes "threshold") (text_at (codes "kind") d) then option_map Threshold (threshold_of d)
    else (if is_text (codes "no-rewind") (text_at (codes "kind") d) then Some NoRewind else None))

-- a rule: its name, what it asks, and the texts of its patterns
abbrev pub rule_of : Data → Option RawGlobalRule
rule_of d =
    option_and_then (λ name. option_and_then
    (λ kind. option_map (λ paths. record { name = name; paths = paths; kind = kind })
    (each_at as_str (codes "paths") d)) (kind_of d)) (text_at (codes "name") d)

-- the rules of a value whose type is `global`
abbrev pub rules_of : Data → Option (List RawGlobalRule)
rules_of d = (if is_text (codes "global") (text_at (codes "type") d) then each_at rule_of (codes "rules") d else None)
