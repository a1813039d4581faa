-- Which entries an annotation would skip, if a key signed it now.
use Rattle.std.specs.Prelude.{◌≡◌, ◌<◌, ◌≤◌, ℕ, Bool, true, false, List, length, Option, Some, None}
use Rattle.git_object.specs.Repository.{Repository}
use Rattle.root_metadata.specs.Shapes.{only_if}
use Rattle.rsl_chain.specs.Entries.{Taken, skips_id}
use Rattle.rsl_chain.specs.Logs.{IsLogOf}
use Rattle.rsl_chain.specs.declared.entries.EntryBody.{EntryBody}
use Rattle.rsl_chain.specs.declared.entries.EntryBody.TheVariants.{Reference, Annotation}
use Rattle.judging.specs.Logs.{entry_at, has_id, key_may_skip, policy_after, skips}
use Rattle.judging.specs.Rules.{Rules}
use Rattle.policy_epochs.specs.declared.policies.Policy.{Policy}
use Rattle.entry_rules.specs.RealRules.{real_rules}
use Rattle.entry_rules.specs.declared.faults.Fault.{Fault}
use Rattle.verify_ref.specs.Logs.{AreEntries}
use Rattle.would_be.specs.Would.{is_key_of}
use Rattle.account_lines.specs.Lines.{skip_line}
use Rattle.accounts.specs.Rows.{signer_in}

-- the key, where it is one of the policy's
abbrev pub key_in : Option Policy → List ℕ → Option (List ℕ)
key_in None key = None
key_in (Some policy) key = only_if (is_key_of policy.keys key) key

-- an annotation that the key signs, under this policy, may skip what a body records
abbrev pub would_skip : Rules Policy Fault → Option Policy → List ℕ → EntryBody → Bool
would_skip rules None key body = false
would_skip rules (Some policy) key (Reference name target) = key_may_skip rules policy (key_in (Some policy) key) name
would_skip rules (Some policy) key (Annotation ids skip message) = false

-- the reference of which a body records a target
abbrev pub name_in : EntryBody → Option (List ℕ)
name_in (Reference name target) = Some name
name_in (Annotation ids skip message) = None

-- whether it would skip the entry that it lists, and the line that says so: where the log has the entry, and where not
abbrev pub skips_told : Option (List (List ℕ)) → List Taken → List ℕ → Option Taken → Bool
skips_told anchor log key None = false
skips_told anchor log key (Some t) =
    would_skip (real_rules anchor) (policy_after (real_rules anchor) log) key t.entry.body

abbrev pub skip_told : Option (List (List ℕ)) → List Taken → List ℕ → List ℕ → ℕ → Option Taken → List ℕ
skip_told anchor log key id number None = skip_line id None None false
skip_told anchor log key id number (Some t) =
    skip_line id (Some number) (name_in t.entry.body) (skips_told anchor log key (Some t))

-- an entry of the log has this id and this number
abbrev pub IsAt : List Taken → List ℕ → ℕ → Type 0
IsAt log id number = (0 < number) × (number ≤ length log) × (has_id (entry_at log number) id ≡ true)

-- the entry of an id in a log, by its number; none where no entry has the id
pub record IsFoundAt (log : List Taken) (id : List ℕ) (number : ℕ) (found : Option Taken) : Type 0 where
  pub there : (t : Taken) → found ≡ Some t → (0 < number) × (entry_at log number ≡ Some t) × (t.entry.id ≡ id)
  pub none : found ≡ None → (i : ℕ) → 0 < i → i ≤ length log → has_id (entry_at log i) id ≡ false

-- this line says whether an annotation that the key signs behind the repository's log would skip the entry of an id
pub record IsToldSkip (anchor : Option (List (List ℕ))) (r : Repository) (key id line : List ℕ) (skips : Bool)
    : Type 0 where
  pub ids : List (List ℕ)
  pub is_log : IsLogOf r ids
  pub log : List Taken
  pub entries : AreEntries r ids log
  pub number : ℕ
  pub found : Option Taken
  pub at : IsFoundAt log id number found
  pub told : line ≡ skip_told anchor log key id number found
  pub is : skips ≡ skips_told anchor log key found

-- what is told of an entry is what an annotation that lists it does, once it stands behind the log and is signed by the
-- key, where that is one of the policy's, and else by none of these
abbrev pub AsSkipped : Type 0
AsSkipped = (anchor : Option (List (List ℕ))) (log : List Taken) (a x : Taken) (key : List ℕ)
    → skips_id a.entry.body x.entry.id ≡ true
    → signer_in (policy_after (real_rules anchor) log) a.entry ≡ key_in (policy_after (real_rules anchor) log) key
    → skips (real_rules anchor) log (Some a) (Some x) ≡ skips_told anchor log key (Some x)
