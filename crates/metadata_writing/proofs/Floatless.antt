-- No number of what is written has a point.
use Rattle.std.proofs.Common.{◌≡◌, ◌==◌, Bool, true, false, refl}
use Rattle.std.specs.Prelude.{if◌then◌else◌}
use Rattle.json_fields.proofs.Written.{no_float}
use Rattle.serde_json.specs.Data.{Data}
use Rattle.serde_json.specs.Written.{has_float}
use Rattle.root_metadata.specs.declared.persons.Person.{Person}
use Rattle.root_metadata.specs.declared.roots.Role.{Role}
use Rattle.root_metadata.specs.declared.roots.Root.{Root}
use Rattle.rule_files.specs.declared.rules.Rule.{Rule}
use Rattle.rule_files.specs.declared.rules.RuleFile.{RuleFile}
use Rattle.metadata_writing.specs.Written.{file_data, file_first, file_second, hex_data, key_data, name_data, pattern_data, person_data, role_first, role_second, root_data, root_first, root_second, rule_first, rule_second}

either : (b : Bool) (d e : Data) → has_float d ≡ false → has_float e ≡ false → has_float (if b then d else e) ≡ false
either true d e first second = first
either false d e first second = second

of_person : (p : Person) → has_float (person_data p) ≡ false
of_person p = rw (no_float hex_data (λ id. refl) p.keyids) refl

of_role_first : (role : Role) → has_float (role_first role) ≡ false
of_role_first role = rw (no_float name_data (λ p. refl) role.persons) refl

of_role_second : (role : Role) → has_float (role_second role) ≡ false
of_role_second role = rw (no_float name_data (λ p. refl) role.persons) refl

of_rule_first : (rule : Rule) → has_float (rule_first rule) ≡ false
of_rule_first rule = rw (no_float name_data (λ p. refl) rule.persons, no_float pattern_data (λ p. refl) rule.patterns) refl

of_rule_second : (rule : Rule) → has_float (rule_second rule) ≡ false
of_rule_second rule = rw (no_float pattern_data (λ p. refl) rule.patterns, no_float name_data (λ p. refl) rule.persons) refl

of_root_first : (root : Root) → has_float (root_first root) ≡ false
of_root_first root = rw (no_float key_data (λ k. refl) root.keys, no_float name_data (λ p. refl) root.root.persons, no_float name_data (λ p. refl) root.targets.persons) refl

of_root_second : (root : Root) → has_float (root_second root) ≡ false
of_root_second root =
    rw (no_float key_data (λ k. refl) root.keys, no_float person_data of_person root.persons, no_float name_data (λ p. refl) root.root.persons, no_float name_data (λ p. refl) root.targets.persons) refl

of_file_first : (file : RuleFile) → has_float (file_first file) ≡ false
of_file_first file = rw (no_float key_data (λ k. refl) file.keys, no_float rule_first of_rule_first file.rules) refl

of_file_second : (file : RuleFile) → has_float (file_second file) ≡ false
of_file_second file = rw (no_float key_data (λ k. refl) file.keys, no_float person_data of_person file.persons, no_float rule_second of_rule_second file.rules) refl

pub of_root : (root : Root) → has_float (root_data root) ≡ false
of_root root = either (root.schema == 1) (root_first root) (root_second root) (of_root_first root) (of_root_second root)

pub of_file : (file : RuleFile) → has_float (file_data file) ≡ false
of_file file = either (file.schema == 1) (file_first file) (file_second file) (of_file_first file) (of_file_second file)
