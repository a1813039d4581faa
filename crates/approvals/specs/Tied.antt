-- A repository that has the objects of a change beside the old ones finds the approval that was put.
use Rattle.std.specs.Prelude.{◌≡◌, ◌≢◌, ℕ, List, Option, Ok}
use Rattle.std.specs.List.{AllByRecursion}
use Rattle.git_object.specs.Ids.{IsId, zeros}
use Rattle.git_object.specs.Names.{IsRefName, components}
use Rattle.git_object.specs.Objects.{Pair, pair_id}
use Rattle.git_object.specs.Repository.{HasObject, Repository}
use Rattle.keeper_api.specs.Changes.{changed}
use Rattle.keeper_api.specs.Growing.{AreNew}
use Rattle.tree_paths.specs.Readings.{Readings}
use Rattle.tree_paths.specs.Repositories.{readings_of}
use Rattle.tree_paths.specs.States.{PathValue, root_of}
use Rattle.dsse_envelope.specs.Envelopes.{reading}
use Rattle.dsse_envelope.specs.Written.{text_of}
use Rattle.dsse_envelope.specs.declared.envelope.Envelope.{Envelope}
use Rattle.root_metadata.specs.declared.keys.Key.{Key}
use Rattle.approvals.specs.Signers.{env_signers}
use Rattle.approvals.specs.Approvals.{approval_path}
use Rattle.approvals.specs.Finding.{path_from}
use Rattle.approvals.specs.Lookups.{approvers_of, tree_of}
use Rattle.approvals.specs.Attesting.{IsAttestable, attested}
use Rattle.approvals.specs.declared.attesting.Attested.{Attested}

-- it has all objects of another repository, and these
pub record HasBoth (before after : Repository) (pairs : List Pair) : Type 0 where
  pub old : (id : List ℕ) (pair : Pair) → HasObject before id pair → HasObject after id pair
  pub new : AllByRecursion (λ pair. HasObject after (pair_id pair) pair) pairs

-- after the change, none of whose objects clashes with another, the approvers are found to be the signers of the
-- envelope,
-- which is read as it is written; zeros are no commit's id
abbrev pub IsFoundAgain : Repository → Type 0
IsFoundAgain r =
    (target name from tree author : List ℕ) (envelope : Envelope) (keys : List Key) (a : Attested) → IsRefName name
    → IsId from
    → IsId tree → IsAttestable name from tree envelope → reading (text_of envelope) ≡ Ok envelope
    → attested r target name from tree envelope author ≡ Ok a → AreNew a.change.objects r → a.commit ≢ zeros
    → approvers_of (changed a.change r) a.commit name from tree keys ≡ env_signers envelope keys

-- what stands at a path of a target's tree: nothing, or what is no directory
abbrev pub path_in : Readings → List (List ℕ) → List ℕ → Option PathValue
path_in readings names target = path_from readings.trees names (tree_of (root_of readings.heads target))

-- and at each other path the new commit has what the old target has
abbrev pub StaysElsewhere : Repository → Type 0
StaysElsewhere r =
    (target name from tree author : List ℕ) (envelope : Envelope) (a : Attested) (others : List (List ℕ))
    → IsRefName name → IsId from
    → IsId tree → attested r target name from tree envelope author ≡ Ok a → AreNew a.change.objects r → a.commit ≢ zeros
    → others ≢ components (approval_path name from tree)
    → path_in (readings_of (changed a.change r)) others a.commit ≡ path_in (readings_of (changed a.change r)) others
    target
