-- Files of global rules as they are read.
use Rattle.std.specs.Prelude.{ℕ, ◌+◌, ◌==◌, ◌&&◌, ◌||◌, Bool, false, List, [], ◌∷◌, ◌++◌, Option, Some, None, Result}
use Rattle.std.specs.Prelude.{Ok, Err, codes, length, map, nat_eq, nat_le, not, if◌then◌else◌}
use Rattle.std.specs.List.{find, list_any, position, starts_with}
use Rattle.std.specs.Option.{option_map}
use Rattle.std.specs.Str.{bytes_eq}
use Rattle.serde_json.specs.Data.{Data}
use Rattle.json_fields.specs.Json.{json_of}
use Rattle.root_metadata.specs.Judged.{at_place, or_next}
use Rattle.rule_files.specs.Files.{is_pattern, is_rule_name, patterns_made}
use Rattle.rule_files.specs.GlobalShapes.{rules_of}
use Rattle.rule_files.specs.declared.global_faults.GlobalFault.{GlobalFault}
use Rattle.rule_files.specs.declared.global_faults.GlobalFault.TheVariants.{NotJson, MissingField, BadCount, BadPattern}
use Rattle.rule_files.specs.declared.global_faults.GlobalFault.TheVariants.{BadName, BadThreshold}
use Rattle.rule_files.specs.declared.global_raw.RawGlobalRule.{RawGlobalRule}
use Rattle.rule_files.specs.declared.global_rules.GlobalFile.{GlobalFile}
use Rattle.rule_files.specs.declared.global_rules.GlobalKind.{GlobalKind}
use Rattle.rule_files.specs.declared.global_rules.GlobalKind.TheVariants.{NoRewind, Threshold}
use Rattle.rule_files.specs.declared.global_rules.GlobalRule.{GlobalRule}

-- 1 to 64 of something
abbrev pub are_few : ℕ → Bool
are_few count = nat_le 1 count && nat_le count 64

-- a count that is not 1 to 64
abbrev pub wrong_count : ℕ → Option ℕ
wrong_count count = (if are_few count then None else Some count)

abbrev pub has_few_patterns : RawGlobalRule → Bool
has_few_patterns rule = are_few (length rule.paths)

-- the count of the patterns of the first rule that has not 1 to 64
abbrev pub patterns_count : List RawGlobalRule → Option ℕ
patterns_count rules = option_map (λ rule. length rule.paths) (find (λ rule. not (has_few_patterns rule)) rules)

-- a text that may stand under a rule of this kind: a pattern, and under one against rewinding none of files
abbrev pub may_stand : GlobalKind → List ℕ → Bool
may_stand (Threshold threshold) text = is_pattern text
may_stand NoRewind text = is_pattern text && not (starts_with nat_eq text (codes "file:"))

-- the first pattern that may not stand where it stands, from the rule at this place on
abbrev pub pattern_fault_from : ℕ → List RawGlobalRule → Option GlobalFault
pattern_fault_from at [] = None
pattern_fault_from at (rule ∷ rules) =
    or_next (at_place (BadPattern at) (position (λ text. not (may_stand rule.kind text)) rule.paths))
    (pattern_fault_from (at + 1) rules)

-- a name that no rule may have, or that an earlier rule has
abbrev pub is_bad_name : List RawGlobalRule → RawGlobalRule → Bool
is_bad_name earlier rule = not (is_rule_name rule.name) || list_any (λ other. bytes_eq other.name rule.name) earlier

-- the place of the first rule whose name is bad beside those before it
abbrev pub bad_name_from : List RawGlobalRule → List RawGlobalRule → Option ℕ
bad_name_from earlier [] = None
bad_name_from earlier (rule ∷ rules) =
    (if is_bad_name earlier rule then Some (length earlier) else bad_name_from (earlier ++ rule ∷ []) rules)

abbrev pub is_zero : GlobalKind → Bool
is_zero (Threshold threshold) = threshold == 0
is_zero NoRewind = false

-- what may be wrong, number by number

abbrev pub count_fault : List RawGlobalRule → Option GlobalFault
count_fault rules = or_next (at_place BadCount (wrong_count (length rules))) (at_place BadCount (patterns_count rules))

abbrev pub pattern_fault : List RawGlobalRule → Option GlobalFault
pattern_fault rules = pattern_fault_from 0 rules

abbrev pub name_fault : List RawGlobalRule → Option GlobalFault
name_fault rules = at_place BadName (bad_name_from [] rules)

abbrev pub threshold_fault : List RawGlobalRule → Option GlobalFault
threshold_fault rules = at_place BadThreshold (position (λ rule. is_zero rule.kind) rules)

abbrev pub fault_of : List RawGlobalRule → Option GlobalFault
fault_of rules = or_next (count_fault rules)
    (or_next (pattern_fault rules) (or_next (name_fault rules) (threshold_fault rules)))

-- the file that is written, where nothing is wrong

abbrev pub rule_made : RawGlobalRule → GlobalRule
rule_made rule = record { name = rule.name; paths = patterns_made rule.paths; kind = rule.kind }

abbrev pub file_made : List RawGlobalRule → GlobalFile
file_made rules = record { rules = map rule_made rules }

abbrev pub judged : List RawGlobalRule → Option GlobalFault → Result GlobalFile GlobalFault
judged rules None = Ok (file_made rules)
judged rules (Some fault) = Err fault

abbrev pub from_shape : Option (List RawGlobalRule) → Result GlobalFile GlobalFault
from_shape None = Err MissingField
from_shape (Some rules) = judged rules (fault_of rules)

abbrev pub from_json : Option Data → Result GlobalFile GlobalFault
from_json None = Err NotJson
from_json (Some d) = from_shape (rules_of d)

-- what a text is read as, want of memory aside
abbrev pub reading : List ℕ → Result GlobalFile GlobalFault
reading text = from_json (json_of text)
