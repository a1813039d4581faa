-- The rules of an entry, read aloud: each as a reader would say it, without tests and lists.
use Rattle.std.specs.Prelude.{◌≡◌, ◌≢◌, ◌⊎◌, ℕ, false, true, List, Option, Some, None, Ok}
use Rattle.std.specs.FinMap.{get}
use Rattle.std.specs.List.{Contains}
use Rattle.std.specs.Ordering.{is_gt}
use Rattle.octets.specs.BytesMap.{by_bytes}
use Rattle.git_object.specs.Ids.{zeros}
use Rattle.git_object.specs.Repository.{Repository}
use Rattle.lms_keys.specs.SigOk.{SigOk}
use Rattle.rsl_chain.specs.declared.entries.Entry.{Entry}
use Rattle.dsse_envelope.specs.Envelopes.{reading}
use Rattle.dsse_envelope.specs.declared.envelope.Envelope.{Envelope}
use Rattle.root_metadata.specs.Persons.{count_in}
use Rattle.root_metadata.specs.declared.keys.Key.{Key}
use Rattle.rule_files.specs.declared.rules.Rule.{Rule}
use Rattle.rule_files.specs.declared.rules.RuleFile.{RuleFile}
use Rattle.rule_delegations.specs.Chains.{rule_at}
use Rattle.rule_delegations.specs.Reached.{IsFirstReached, Meets, Name}
use Rattle.rule_delegations.specs.declared.places.RuleRef.{RuleRef}
use Rattle.approvals.specs.Approvals.{approval_path, is_approval}
use Rattle.approvals.specs.Lookups.{file_in}
use Rattle.approvals.specs.Signers.{IsSigner}
use Rattle.tree_paths.specs.Broken.{IsBrokenAt, IsUnbroken}
use Rattle.tree_paths.specs.Repositories.{readings_of}
use Rattle.tree_paths.specs.States.{Ended, map_at, state_at, walk_of}
use Rattle.tree_paths.specs.declared.states.State.{State}
use Rattle.tree_paths.specs.declared.states.State.TheVariants as state
use Rattle.entry_rules.specs.Meeting.{file_name, git_name}
use Rattle.entry_rules.specs.declared.faults.Fault.{Fault}
use Rattle.entry_rules.specs.declared.faults.Fault.TheVariants.{Broken, NoPolicy, NotEpoch, PathRule, RefRule}

-- ---- who signed

-- the entry names the key, one of these has its id, and the signature is good by it over what is signed
pub record SignsEntry (keys : List Key) (entry : Entry) (id : List ℕ) : Type 0 where
  pub named : entry.signer ≡ Some id
  pub key : Key
  pub listed : Contains keys key
  pub own : key.id ≡ id
  pub good : SigOk key.public entry.signed entry.signature

-- the tree of a state that is not broken: zeros where there is nothing
abbrev pub HasTree : State → List ℕ → Type 0
HasTree state.Absent tree = zeros ≡ tree
HasTree (state.Broken id) tree = ⊥
HasTree (state.Whole root paths dirs) tree = root ≡ tree

-- among the attestations of a target the file of this change is an envelope that says of itself that it approves it
pub record IsApproval (r : Repository) (attestations name from tree : List ℕ) (envelope : Envelope) : Type 0 where
  pub bytes : List ℕ
  pub file : file_in r attestations (approval_path name from tree) ≡ Some bytes
  pub read : reading bytes ≡ Ok envelope
  pub says : is_approval name from tree envelope ≡ true

-- an approval of the change of a reference from one target to the tree of another is found, and the key signed it
pub record SignsApproval (r : Repository) (keys : List Key) (name from target : List ℕ) (attested : Option (List ℕ))
    (id : List ℕ) : Type 0 where
  pub attestations : List ℕ
  pub told : attested ≡ Some attestations
  pub tree : List ℕ
  pub to : HasTree (state_at (walk_of (readings_of r) target)) tree
  pub envelope : Envelope
  pub found : IsApproval r attestations name from tree envelope
  pub signed : IsSigner envelope keys id

-- ---- what changed

-- two states have another value at the path, or only one has it, and the signers do not meet it
pub record IsUnmetChange (files : List RuleFile) (signers : List (List ℕ)) (s t : Ended) (path : List ℕ) : Type 0 where
  pub changed : get (map_at s) path ≢ get (map_at t) path
  pub unmet : Meets files (file_name path) signers → ⊥

-- and no such path is before it in the order of bytes
pub record IsLeastUnmet (files : List RuleFile) (signers : List (List ℕ)) (s t : Ended) (path : List ℕ) : Type 0 where
  pub is : IsUnmetChange files signers s t path
  pub least : (other : List ℕ) → IsUnmetChange files signers s t other → is_gt (by_bytes path other) ≡ false

-- the least of them, or that there is none
abbrev pub IsLeast : List RuleFile → List (List ℕ) → Ended → Ended → Option (List ℕ) → Type 0
IsLeast files signers s t (Some path) = IsLeastUnmet files signers s t path
IsLeast files signers s t None = (path : List ℕ) → IsUnmetChange files signers s t path → ⊥

-- ---- the entry of a reference that went from one target to another

-- the states of both are not broken, the signers meet the reference, and each path at which the two maps differ
pub record IsLawful (r : Repository) (files : List RuleFile) (signers : List (List ℕ))
    (name from target : List ℕ) : Type 0 where
  pub from_whole : IsUnbroken (readings_of r) from
  pub to_whole : IsUnbroken (readings_of r) target
  pub reference : Meets files (git_name name) signers
  pub paths : (path : List ℕ) → get (map_at (walk_of (readings_of r) from)) path
      ≢ get (map_at (walk_of (readings_of r) target)) path
      → Meets files (file_name path) signers

-- of the rule that a name reaches first, in pre-order: its name, how many of its persons signed, and its threshold
pub record IsRuleTold (files : List RuleFile) (name : Name) (signers : List (List ℕ)) (told : List ℕ)
    (got need : ℕ) : Type 0 where
  pub place : RuleRef
  pub first : IsFirstReached files name (Some place)
  pub rule : Rule
  pub is : rule_at files place ≡ Some rule
  pub named : rule.name ≡ told
  pub counted : count_in rule.persons signers ≡ got
  pub needed : rule.threshold ≡ need

-- the state before is broken at this object, or it is not and the one that the entry takes is
abbrev pub IsBrokenTold : Repository → List ℕ → List ℕ → List ℕ → Type 0
IsBrokenTold r from target id = IsBrokenAt (readings_of r) from id
    ⊎ (IsUnbroken (readings_of r) from × IsBrokenAt (readings_of r) target id)

-- neither is, and the signers do not meet the reference
pub record IsRefTold (r : Repository) (files : List RuleFile) (signers : List (List ℕ)) (name from target told : List ℕ)
    (got need : ℕ) : Type 0 where
  pub from_whole : IsUnbroken (readings_of r) from
  pub to_whole : IsUnbroken (readings_of r) target
  pub unmet : Meets files (git_name name) signers → ⊥
  pub rule : IsRuleTold files (git_name name) signers told got need

-- neither is, the signers meet the reference, and this is the least path that they do not meet
pub record IsPathTold (r : Repository) (files : List RuleFile) (signers : List (List ℕ))
    (name from target path told : List ℕ) (got need : ℕ) : Type 0 where
  pub from_whole : IsUnbroken (readings_of r) from
  pub to_whole : IsUnbroken (readings_of r) target
  pub reference : Meets files (git_name name) signers
  pub least : IsLeastUnmet files signers (walk_of (readings_of r) from) (walk_of (readings_of r) target) path
  pub rule : IsRuleTold files (file_name path) signers told got need

-- what is told of the entry under a policy in force
abbrev pub IsTold : Repository → List RuleFile → List (List ℕ) → List ℕ → List ℕ → List ℕ → Fault → Type 0
IsTold r files signers name from target NoPolicy = ⊥
IsTold r files signers name from target (Broken id) = IsBrokenTold r from target id
IsTold r files signers name from target (RefRule told got need) =
    IsRefTold r files signers name from target told got need
IsTold r files signers name from target (PathRule path told got need) =
    IsPathTold r files signers name from target path told got need
IsTold r files signers name from target (NotEpoch why) = ⊥
