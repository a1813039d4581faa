-- Rule files as they are read.
use Rattle.std.specs.Prelude.{ℕ, ◌+◌, ◌==◌, ◌&&◌, Bool, List, [], ◌∷◌, Option, Some, None, Result, Ok, Err, codes}
use Rattle.std.specs.Prelude.{is_ok, length, map, nat_le, not, slice_index}
use Rattle.std.specs.List.{filter_map, find, position}
use Rattle.std.specs.Option.{option_map}
use Rattle.std.specs.Result.{result_ok}
use Rattle.std.specs.Str.{bytes_eq}
use Rattle.serde_json.specs.Data.{Data}
use Rattle.json_fields.specs.Json.{json_of}
use Rattle.ref_patterns.specs.Patterns as patterns
use Rattle.ref_patterns.specs.declared.pattern.Pattern.{Pattern}
use Rattle.root_metadata.specs.Judged.{at_place, first_wrong, has_bad_threshold, has_own_id, is_bad_person, is_key}
use Rattle.root_metadata.specs.Judged.{is_name, or_next, shares_key, too_many}
use Rattle.root_metadata.specs.Made.{key_made, own_persons, persons_made}
use Rattle.root_metadata.specs.declared.raw.Roster.{Roster}
use Rattle.rule_files.specs.Shapes.{file_of}
use Rattle.rule_files.specs.declared.faults.RuleFault.{RuleFault}
use Rattle.rule_files.specs.declared.faults.RuleFault.TheVariants.{NotJson, MissingField, BadCount, BadKey}
use Rattle.rule_files.specs.declared.faults.RuleFault.TheVariants.{KeyIdDiffers, BadThreshold, BadPattern, BadName}
use Rattle.rule_files.specs.declared.faults.RuleFault.TheVariants.{BadPerson, SharedKey}
use Rattle.rule_files.specs.declared.raw.RawRule.{RawRule}
use Rattle.rule_files.specs.declared.raw.RawRuleFile.{RawRuleFile}
use Rattle.rule_files.specs.declared.rules.Rule.{Rule}
use Rattle.rule_files.specs.declared.rules.RuleFile.{RuleFile}

-- 1 to 64 patterns
abbrev pub has_few_patterns : RawRule → Bool
has_few_patterns rule = nat_le 1 (length rule.paths) && nat_le (length rule.paths) 64

-- the count of the patterns of the first rule that has not 1 to 64
abbrev pub patterns_count : List RawRule → Option ℕ
patterns_count rules = option_map (λ rule. length rule.paths) (find (λ rule. not (has_few_patterns rule)) rules)

-- a name that a rule may have: as a person's, with no `.` in front, and neither `root` nor `targets`
abbrev pub is_rule_name : List ℕ → Bool
is_rule_name text = is_name text && not (slice_index text 0 == 46) && not (bytes_eq text (codes "root"))
    && not (bytes_eq text (codes "targets"))

abbrev pub is_pattern : List ℕ → Bool
is_pattern text = is_ok (patterns.reading text)

-- the first pattern that is none, from the rule at this place on
abbrev pub pattern_fault_from : ℕ → List RawRule → Option RuleFault
pattern_fault_from at [] = None
pattern_fault_from at (rule ∷ rules) =
    or_next (at_place (BadPattern at) (position (λ text. not (is_pattern text)) rule.paths))
    (pattern_fault_from (at + 1) rules)

-- what may be wrong, number by number

abbrev pub count_fault : RawRuleFile → Option RuleFault
count_fault file =
    or_next (at_place BadCount (too_many (length file.roster.keys)))
    (or_next (at_place BadCount (too_many (length file.rules)))
    (or_next (at_place BadCount (patterns_count file.rules))
    (at_place BadCount (too_many (length file.roster.persons)))))

abbrev pub key_fault : RawRuleFile → Option RuleFault
key_fault file = at_place BadKey (position (λ key. not (is_key key)) file.roster.keys)

abbrev pub id_fault : RawRuleFile → Option RuleFault
id_fault file = at_place KeyIdDiffers (position (λ key. not (has_own_id key)) file.roster.keys)

abbrev pub threshold_fault : RawRuleFile → Option RuleFault
threshold_fault file = at_place BadThreshold (position (λ rule. has_bad_threshold file.roster rule.role) file.rules)

abbrev pub pattern_fault : RawRuleFile → Option RuleFault
pattern_fault file = pattern_fault_from 0 file.rules

abbrev pub name_fault : RawRuleFile → Option RuleFault
name_fault file = at_place BadName (position (λ rule. not (is_rule_name rule.name)) file.rules)

abbrev pub person_fault : RawRuleFile → Option RuleFault
person_fault file = at_place BadPerson (first_wrong (is_bad_person file.roster.keys) [] file.roster.persons)

abbrev pub shared_fault : RawRuleFile → Option RuleFault
shared_fault file = at_place SharedKey (first_wrong shares_key [] file.roster.persons)

-- the first that is wrong among keys and thresholds, and among the rest
abbrev pub early_fault : RawRuleFile → Option RuleFault
early_fault file = or_next (count_fault file)
    (or_next (key_fault file) (or_next (id_fault file) (threshold_fault file)))

abbrev pub late_fault : RawRuleFile → Option RuleFault
late_fault file = or_next (pattern_fault file)
    (or_next (name_fault file) (or_next (person_fault file) (shared_fault file)))

abbrev pub fault_of : RawRuleFile → Option RuleFault
fault_of file = or_next (early_fault file) (late_fault file)

-- the pattern of a text, and those of several
abbrev pub pattern_made : List ℕ → Option Pattern
pattern_made text = result_ok (patterns.reading text)

abbrev pub patterns_made : List (List ℕ) → List Pattern
patterns_made texts = filter_map pattern_made texts

abbrev pub rule_made : Roster → RawRule → Rule
rule_made roster rule = record {
  name = rule.name;
  patterns = patterns_made rule.paths;
  terminating = rule.terminating;
  persons = persons_made roster rule.role.listed;
  threshold = rule.role.threshold;
}

-- the rule file that is written, where nothing is wrong
abbrev pub file_made : RawRuleFile → RuleFile
file_made file = record {
  name = file.name;
  schema = file.roster.schema;
  version = file.roster.version;
  keys = map key_made file.roster.keys;
  persons = own_persons file.roster;
  rules = map (rule_made file.roster) file.rules;
}

abbrev pub judged : RawRuleFile → Option RuleFault → Result RuleFile RuleFault
judged file None = Ok (file_made file)
judged file (Some fault) = Err fault

abbrev pub from_shape : Option RawRuleFile → Result RuleFile RuleFault
from_shape None = Err MissingField
from_shape (Some file) = judged file (fault_of file)

abbrev pub from_json : Option Data → Result RuleFile RuleFault
from_json None = Err NotJson
from_json (Some d) = from_shape (file_of d)

-- what a text is read as, want of memory aside
abbrev pub reading : List ℕ → Result RuleFile RuleFault
reading text = from_json (json_of text)
