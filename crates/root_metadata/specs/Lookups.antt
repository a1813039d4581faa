-- What a file's keys and persons are found by: their ids and their names as sets.
use Rattle.std.specs.Prelude.{◌≡◌, ◌==◌, ◌||◌, ℕ, Bool, false, not, List, Option, Some, None, map, if◌then◌else◌}
use Rattle.std.specs.List.{list_all, list_any}
use Rattle.json_fields.specs.Hexadecimal.{hex_bytes}
use Rattle.root_metadata.specs.Judged.{has_few_ids, is_name, is_named}
use Rattle.root_metadata.specs.Made.{all_names}
use Rattle.root_metadata.specs.Risings.{has_key}
use Rattle.root_metadata.specs.Shapes.{set_of}
use Rattle.root_metadata.specs.declared.known.Known.{Known}
use Rattle.root_metadata.specs.declared.persons.Person.{Person}
use Rattle.root_metadata.specs.declared.raw.Roster.{Roster}

-- these are the sets of the file
pub record IsIndex (roster : Roster) (known : Known) : Type 0 where
  pub ids : known.ids ≡ set_of (map (λ k. k.id) roster.keys)
  pub names : known.names ≡ all_names roster

-- ---- the tests of `Judged.antt`, by the sets

abbrev pub has_id : List (List ℕ) → Option (List ℕ) → Bool
has_id ids None = false
has_id ids (Some id) = has_key (λ k. k) ids id

abbrev pub is_found : Known → ℕ → List ℕ → Bool
is_found known schema text = (if schema == 1 then has_id known.ids (hex_bytes 32 text) else has_key (λ n. n) known.names
    text)

abbrev pub is_bad_beside : Known → List Person → Person → Bool
is_bad_beside known earlier person =
    not (is_name person.name) || list_any (is_named person.name) earlier || not (has_few_ids person)
    || not (list_all (has_key (λ k. k) known.ids) person.keyids)
