-- Persons who signed.
use Rattle.std.specs.Prelude.{ℕ, Bool, List, count_by}
use Rattle.std.specs.List.{list_any}
use Rattle.root_metadata.specs.Risings.{has_key}
use Rattle.root_metadata.specs.declared.persons.Person.{Person}

-- some key of the person is in the set
abbrev pub has_signed : List (List ℕ) → Person → Bool
has_signed signers person = list_any (λ id. has_key (λ other. other) signers id) person.keyids

-- how many of the persons have a key in the set: a person counts once, however many of his keys are in it
abbrev pub count_in : List Person → List (List ℕ) → ℕ
count_in persons signers = count_by (has_signed signers) persons
