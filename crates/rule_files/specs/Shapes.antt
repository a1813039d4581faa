-- Rule files as they are written, in JSON, before anything is judged.
use Rattle.std.specs.Prelude.{ℕ, Option, codes, option_and_then}
use Rattle.std.specs.Option.{option_map}
use Rattle.serde_json.specs.Data.{Data}
use Rattle.serde_json.specs.Find.{as_str}
use Rattle.json_fields.specs.Json.{bool_at, each_at, text_at}
use Rattle.root_metadata.specs.Shapes.{role_of, roster_of}
use Rattle.rule_files.specs.declared.raw.RawRule.{RawRule}
use Rattle.rule_files.specs.declared.raw.RawRuleFile.{RawRuleFile}

-- a rule of a file of this schema
abbrev pub rule_of : ℕ → Data → Option RawRule
rule_of schema d =
    option_and_then (λ name. option_and_then
    (λ terminating. option_and_then
    (λ paths. option_map (λ role. record { name = name; paths = paths; terminating = terminating; role = role })
    (role_of schema d)) (each_at as_str (codes "paths") d)) (bool_at (codes "terminating") d))
    (text_at (codes "name") d)

-- a rule file
abbrev pub file_of : Data → Option RawRuleFile
file_of d =
    option_and_then (λ roster. option_and_then
    (λ name. option_map (λ rules. record { name = name; roster = roster; rules = rules })
    (each_at (rule_of roster.schema) (codes "rules") d)) (text_at (codes "name") d)) (roster_of (codes "rules") d)
