-- What would be found of an entry that nobody signed yet, if these keys signed it.
use Rattle.std.specs.Prelude.{◌≡◌, ◌&&◌, ◌++◌, ◌∷◌, [], ℕ, Bool, true, false, List, Option, Some, None}
use Rattle.std.specs.Prelude.{if◌then◌else◌}
use Rattle.std.specs.List.{filter, list_any}
use Rattle.std.specs.Result.{result_err}
use Rattle.std.specs.Str.{bytes_eq}
use Rattle.git_object.specs.References.{policy_name}
use Rattle.git_object.specs.Repository.{Repository}
use Rattle.root_metadata.specs.Shapes.{set_of}
use Rattle.root_metadata.specs.declared.keys.Key.{Key}
use Rattle.rule_files.specs.declared.rules.RuleFile.{RuleFile}
use Rattle.tree_paths.specs.Changes.{AreChanged}
use Rattle.tree_paths.specs.Repositories.{readings_of}
use Rattle.tree_paths.specs.States.{Ended, map_at, walk_of}
use Rattle.policy_epochs.specs.declared.policies.Policy.{Policy}
use Rattle.policy_reading.specs.Policies.{policy_of}
use Rattle.entry_rules.specs.Faults.{change_fault, first_told, ref_fault}
use Rattle.entry_rules.specs.Meeting.{file_name, meets}
use Rattle.entry_rules.specs.RealRules.{both_sound, epoch_by}
use Rattle.entry_rules.specs.Signing.{approved, tree_in}
use Rattle.entry_rules.specs.declared.faults.Fault.{Fault}
use Rattle.entry_rules.specs.declared.faults.Fault.TheVariants.{NoPolicy, PathRule}
use Rattle.would_be.specs.declared.proposals.Proposed.{Proposed}
use Rattle.would_be.specs.declared.proposals.Stood.{Stood}
use Rattle.would_be.specs.declared.proposals.Would.{Would}

-- ---- who would have signed

-- an id is that of one of the keys
abbrev pub is_key_of : List Key → List ℕ → Bool
is_key_of keys id = list_any (λ key. bytes_eq key.id id) keys

-- the keys of the policy that would have signed for a change to a tree: those that sign it, and those that approved it
abbrev pub signers_to : Repository → Policy → Stood → Proposed → Option (List ℕ) → List (List ℕ)
signers_to r policy stood p tree = set_of (filter (is_key_of policy.keys) p.keys
    ++ approved r policy.keys p.name stood.from stood.attested tree)

abbrev pub would_signers : Repository → Policy → Stood → Proposed → List (List ℕ)
would_signers r policy stood p = signers_to r policy stood p (tree_in (walk_of (readings_of r) p.target))

-- ---- the fault that it would have

abbrev pub ordinary_fault : Repository → Option Policy → Stood → Proposed → Option Fault
ordinary_fault r None stood p = Some NoPolicy
ordinary_fault r (Some policy) stood p =
    change_fault policy.rules p.name (would_signers r policy stood p) (walk_of (readings_of r) stood.from)
    (walk_of (readings_of r) p.target)

abbrev pub would_fault : Option (List (List ℕ)) → Repository → Option Policy → Stood → Proposed → Option Fault
would_fault anchor r current stood p =
    if bytes_eq p.name policy_name then result_err (epoch_by anchor current (policy_of r p.target))
    else ordinary_fault r current stood p

-- ---- and each other that is told beside it

-- one fault, or none
abbrev pub one : Option Fault → List Fault
one None = []
one (Some fault) = fault ∷ []

-- what is told of a path that is not met: the rule that it reaches first
abbrev pub path_told : List RuleFile → List (List ℕ) → List ℕ → Option Fault
path_told files signers path = if meets files (file_name path) signers then None else first_told (PathRule path) files
    (file_name path) signers

abbrev pub paths_told : List RuleFile → List (List ℕ) → List (List ℕ) → List Fault
paths_told files signers [] = []
paths_told files signers (path ∷ paths) = one (path_told files signers path) ++ paths_told files signers paths

-- the reference, where it is not met, and then each of the paths that is not met
abbrev pub all_told : List RuleFile → List ℕ → List (List ℕ) → List (List ℕ) → List Fault
all_told files name signers paths = one (ref_fault files name signers) ++ paths_told files signers paths

-- told are the reference and each of the changed paths that the signers do not meet
pub record TellsAll (files : List RuleFile) (name : List ℕ) (signers : List (List ℕ)) (s t : Ended)
    (faults : List Fault) : Type 0 where
  pub paths : List (List ℕ)
  pub changed : AreChanged (map_at s) (map_at t) paths
  pub told : faults ≡ all_told files name signers paths

-- this is found of a change under a policy: all that is not met, or that a state is broken
pub record IsChange (r : Repository) (policy : Policy) (stood : Stood) (p : Proposed) (found : Would) : Type 0 where
  pub broken : both_sound (readings_of r) stood.from p.target ≡ false
      → found ≡ record { faults = one (ordinary_fault r (Some policy) stood p); signers = [] }
  pub signers : both_sound (readings_of r) stood.from p.target ≡ true → found.signers ≡ would_signers r policy stood p
  pub all : both_sound (readings_of r) stood.from p.target ≡ true
      → TellsAll policy.rules p.name (would_signers r policy stood p) (walk_of (readings_of r) stood.from)
      (walk_of (readings_of r) p.target) found.faults

-- of a reference other than the policy's
abbrev pub IsOrdinary : Repository → Option Policy → Stood → Proposed → Would → Type 0
IsOrdinary r None stood p found = found ≡ record { faults = NoPolicy ∷ []; signers = [] }
IsOrdinary r (Some policy) stood p found = IsChange r policy stood p found

-- of the policy's
abbrev pub epoch_would : Option (List (List ℕ)) → Repository → Option Policy → List ℕ → Would
epoch_would anchor r current target =
    record { faults = one (result_err (epoch_by anchor current (policy_of r target))); signers = [] }

pub record IsWould (anchor : Option (List (List ℕ))) (r : Repository) (current : Option Policy) (stood : Stood)
    (p : Proposed) (found : Would) : Type 0 where
  pub epoch : bytes_eq p.name policy_name ≡ true → found ≡ epoch_would anchor r current p.target
  pub ordinary : bytes_eq p.name policy_name ≡ false → IsOrdinary r current stood p found
