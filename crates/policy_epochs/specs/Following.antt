-- The rules of succession, read aloud, without tests.
use Rattle.std.specs.Prelude.{◌≡◌, ◌⊎◌, ◌↔◌, ◌<◌, ◌≤◌, ◌+◌, ℕ, List, Option, Some, None}
use Rattle.std.specs.List.{Contains}
use Rattle.approvals.specs.Signers.{env_signers}
use Rattle.root_metadata.specs.Persons.{count_in}
use Rattle.root_metadata.specs.declared.persons.Person.{Person}
use Rattle.policy_epochs.specs.declared.policies.Policy.{Policy}
use Rattle.policy_epochs.specs.declared.policies.PolicyFile.{PolicyFile}

-- the new root has another payload
abbrev pub IsOther : Policy → Policy → Type 0
IsOther old new = new.envelope.payload ≡ old.envelope.payload → ⊥

abbrev pub HasFile : List PolicyFile → List ℕ → Type 0
HasFile files name = (file : PolicyFile) × (Contains files file × (file.name ≡ name))

-- a new file of the name has a version above that of an old one
abbrev pub IsRaised : List PolicyFile → List PolicyFile → List ℕ → Type 0
IsRaised old new name =
    (now : PolicyFile) × (Contains new now
    × ((now.name ≡ name) × ((was : PolicyFile)
    × (Contains old was × ((was.name ≡ name) × (was.version < now.version))))))

-- a file may go: the top file where the root has a higher version, and another where the file that held its rule has
-- one or is
-- gone too
abbrev pub MayGo : Policy → Policy → Option (List ℕ) → Type 0
MayGo old new None = old.root.version < new.root.version
MayGo old new (Some holder) = IsRaised old.files new.files holder ⊎ (HasFile new.files holder → ⊥)

-- the policy may follow the other
pub record Follows (old new : Policy) : Type 0 where
  -- another root has the next version
  pub next : IsOther old new → new.root.version ≡ old.root.version + 1
  -- and as many persons of the old root role as it asks for signed it, with keys of the old root
  pub signed : IsOther old new → old.root.root.threshold ≤ count_in old.root.root.persons
      (env_signers new.envelope old.root.keys)
  -- a rule file that both have has the same payload or a higher version
  pub raised : (was now : PolicyFile) → Contains old.files was → Contains new.files now → now.name ≡ was.name
      → (now.payload ≡ was.payload → ⊥) → was.version < now.version
  -- a rule file that only the old one has may go
  pub dropped : (was : PolicyFile) → Contains old.files was → (HasFile new.files was.name → ⊥)
      → MayGo old new was.holder

-- the id is that of a key of some person
abbrev pub IsKeyOf : List Person → List ℕ → Type 0
IsKeyOf persons id = (person : Person) × (Contains persons person × Contains person.keyids id)

-- the ids are exactly those of the persons' keys
abbrev pub AreKeysOf : List Person → List (List ℕ) → Type 0
AreKeysOf persons ids = (id : List ℕ) → Contains ids id ↔ IsKeyOf persons id
