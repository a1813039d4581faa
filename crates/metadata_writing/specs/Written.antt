-- What is written for a root and for a rule file: JSON with nothing between its tokens, and the fields of each object
-- in
-- the order of their names' bytes.
use Rattle.std.specs.Prelude.{◌==◌, ℕ, List, codes, length, map, if◌then◌else◌}
use Rattle.hex.specs.Hex.{encode_lower}
use Rattle.serde_json.specs.Data.{Data, array, boolean, member, no_members, number, object, string, unsigned}
use Rattle.serde_json.specs.View.{items_of}
use Rattle.serde_json.specs.Written.{compact_text}
use Rattle.ref_patterns.specs.Patterns.{Parts}
use Rattle.root_metadata.specs.declared.keys.Key.{Key}
use Rattle.root_metadata.specs.declared.persons.Person.{Person}
use Rattle.root_metadata.specs.declared.roots.Role.{Role}
use Rattle.root_metadata.specs.declared.roots.Root.{Root}
use Rattle.rule_files.specs.declared.rules.Rule.{Rule}
use Rattle.rule_files.specs.declared.rules.RuleFile.{RuleFile}
use Rattle.metadata_writing.specs.Texts.{pattern_text}

abbrev pub list_data : {T : Type 0} → (T → Data) → List T → Data
list_data data_of items = array (items_of (map data_of items))

-- bytes in lower-case hexadecimal
abbrev pub hex_data : List ℕ → Data
hex_data bytes = string (encode_lower bytes)

abbrev pub name_data : Person → Data
name_data person = string person.name

abbrev pub pattern_data : Parts → Data
pattern_data pattern = string (pattern_text pattern)

-- a key of 60 bytes is one of several levels
abbrev pub key_kind : List ℕ → List ℕ
key_kind public = (if length public == 60 then codes "hss" else codes "lms")

abbrev pub key_data : Key → Data
key_data key =
    object (member (codes "keyid") (hex_data key.id)
    (member (codes "keytype") (string (key_kind key.public))
    (member (codes "public") (hex_data key.public) no_members)))

abbrev pub person_data : Person → Data
person_data person = object (member (codes "keyids") (list_data hex_data person.keyids)
    (member (codes "name") (name_data person) no_members))

-- a role: in schema 1 each person is named by the id of the one key, in schema 2 persons are listed by their names
abbrev pub role_first : Role → Data
role_first role = object (member (codes "keyids") (list_data name_data role.persons)
    (member (codes "threshold") (number (unsigned role.threshold)) no_members))

abbrev pub role_second : Role → Data
role_second role = object (member (codes "persons") (list_data name_data role.persons)
    (member (codes "threshold") (number (unsigned role.threshold)) no_members))

abbrev pub rule_first : Rule → Data
rule_first rule =
    object (member (codes "keyids") (list_data name_data rule.persons)
    (member (codes "name") (string rule.name) (member (codes "paths") (list_data pattern_data rule.patterns)
    (member (codes "terminating") (boolean rule.terminating)
    (member (codes "threshold") (number (unsigned rule.threshold)) no_members)))))

abbrev pub rule_second : Rule → Data
rule_second rule =
    object (member (codes "name") (string rule.name)
    (member (codes "paths") (list_data pattern_data rule.patterns)
    (member (codes "persons") (list_data name_data rule.persons)
    (member (codes "terminating") (boolean rule.terminating)
    (member (codes "threshold") (number (unsigned rule.threshold)) no_members)))))

abbrev pub roles_data : (Role → Data) → Root → Data
roles_data role_data root = object
    (member (codes "root") (role_data root.root) (member (codes "targets") (role_data root.targets) no_members))

-- a root of schema 1, which says neither its schema nor persons
abbrev pub root_first : Root → Data
root_first root =
    object (member (codes "keys") (list_data key_data root.keys) (member (codes "roles") (roles_data role_first root)
    (member (codes "type") (string (codes "root"))
    (member (codes "version") (number (unsigned root.version)) no_members))))

abbrev pub root_second : Root → Data
root_second root =
    object (member (codes "keys") (list_data key_data root.keys)
    (member (codes "persons") (list_data person_data root.persons)
    (member (codes "roles") (roles_data role_second root)
    (member (codes "schema") (number (unsigned root.schema))
    (member (codes "type") (string (codes "root"))
    (member (codes "version") (number (unsigned root.version)) no_members))))))

abbrev pub root_data : Root → Data
root_data root = (if root.schema == 1 then root_first root else root_second root)

abbrev pub file_first : RuleFile → Data
file_first file =
    object (member (codes "keys") (list_data key_data file.keys)
    (member (codes "name") (string file.name) (member (codes "rules") (list_data rule_first file.rules)
    (member (codes "type") (string (codes "rules"))
    (member (codes "version") (number (unsigned file.version)) no_members)))))

abbrev pub file_second : RuleFile → Data
file_second file =
    object (member (codes "keys") (list_data key_data file.keys)
    (member (codes "name") (string file.name) (member (codes "persons") (list_data person_data file.persons)
    (member (codes "rules") (list_data rule_second file.rules) (member (codes "schema") (number (unsigned file.schema))
    (member (codes "type") (string (codes "rules"))
    (member (codes "version") (number (unsigned file.version)) no_members)))))))

abbrev pub file_data : RuleFile → Data
file_data file = (if file.schema == 1 then file_first file else file_second file)

-- the text of a root, and that of a rule file
abbrev pub root_text : Root → List ℕ
root_text root = compact_text (root_data root)

abbrev pub file_text : RuleFile → List ℕ
file_text file = compact_text (file_data file)
