-- Why an entry breaks the global rules of the policy in force at its number.
use Rattle.std.specs.Prelude.{◌≡◌, ◌&&◌, ◌++◌, ◌∷◌, [], ℕ, Bool, true, false, not, List, Option, Some, None}
use Rattle.std.specs.Str.{bytes_eq}
use Rattle.git_object.specs.References.{policy_name}
use Rattle.git_object.specs.Repository.{Repository}
use Rattle.rsl_chain.specs.Entries.{Taken, is_of, target_of}
use Rattle.rsl_chain.specs.declared.entries.EntryBody.{EntryBody}
use Rattle.root_metadata.specs.Shapes.{set_of}
use Rattle.judging.specs.Logs.{from, policy_after, signers_of}
use Rattle.judging.specs.Rules.{Rules}
use Rattle.policy_epochs.specs.declared.policies.Policy.{Policy}
use Rattle.entry_rules.specs.declared.faults.Fault.{Fault}
use Rattle.global_rules.specs.Whys.{IsFileWhy}
use Rattle.global_rules.specs.declared.found_files.FoundFile.{FoundFile}
use Rattle.global_rules.specs.declared.whys.Change.{Change}
use Rattle.global_rules.specs.declared.whys.GlobalWhy.{GlobalWhy}
use Rattle.global_verdicts.specs.InForce.{found_after}
use Rattle.global_verdicts.specs.declared.rows.Row.{Row}

-- where no policy is in force there are no global rules
abbrev pub IsUnder : Repository → Option Policy → FoundFile → Change → Option GlobalWhy → Type 0
IsUnder r None found change why = why ≡ None
IsUnder r (Some policy) found change why = IsFileWhy r policy.rules change found why

-- an entry of the reference, unless that is the policy's own
abbrev pub is_judged : List ℕ → EntryBody → Bool
is_judged name body = is_of body name && not (bytes_eq name policy_name)

-- the change of a reference from a target by an entry that these signed
abbrev pub change_by : List ℕ → List ℕ → List (List ℕ) → EntryBody → Change
change_by name from signers body =
    record { name = name; from = from; target = target_of body; signers = set_of signers }

-- by the policy in force, what stands for its rules, where the reference stood, and who signed
pub record IsWhyBy (r : Repository) (name : List ℕ) (policy : Option Policy) (found : FoundFile) (from : List ℕ)
    (signers : List (List ℕ)) (body : EntryBody) (why : Option GlobalWhy) : Type 0 where
  pub judged : is_judged name body ≡ true → IsUnder r policy found (change_by name from signers body) why
  pub other : is_judged name body ≡ false → why ≡ None

pub record IsRowBy (r : Repository) (name : List ℕ) (policy : Option Policy) (found : FoundFile) (from : List ℕ)
    (signers : List (List ℕ)) (body : EntryBody) (row : Row) : Type 0 where
  pub own : row.own ≡ is_of body name
  pub why : IsWhyBy r name policy found from signers body row.why

module _ (rules : Rules Policy Fault) (name : List ℕ) where
  -- of the entry that comes after these, in its own repository
  abbrev pub IsWhyOf : List Taken → Taken → Option GlobalWhy → Type 0
  IsWhyOf earlier t why = IsWhyBy t.repository name (policy_after rules earlier) (found_after rules earlier)
      (from rules earlier name) (signers_of rules earlier t) t.entry.body why

  abbrev pub IsRowOf : List Taken → Taken → Row → Type 0
  IsRowOf earlier t row = IsRowBy t.repository name (policy_after rules earlier) (found_after rules earlier)
      (from rules earlier name) (signers_of rules earlier t) t.entry.body row

  -- of each of the later entries, which stand behind the earlier ones
  abbrev pub AreRows : List Taken → List Taken → List Row → Type 0
  AreRows earlier [] [] = Unit {0}
  AreRows earlier [] (row ∷ rows) = ⊥
  AreRows earlier (t ∷ later) [] = ⊥
  AreRows earlier (t ∷ later) (row ∷ rows) = IsRowOf earlier t row × AreRows (earlier ++ t ∷ []) later rows
