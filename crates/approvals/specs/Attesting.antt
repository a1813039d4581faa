-- The change that puts an approval into the attestations.
use Rattle.std.specs.Prelude.{◌≤◌, ◌++◌, ◌∷◌, ◌≡◌, [], true, ℕ, List, length, Option, Some, None, Result, Ok, Err}
use Rattle.std.specs.Prelude.{codes}
use Rattle.std.specs.List.{AllByRecursion}
use Rattle.git_object.specs.Commits.{commit_lines}
use Rattle.git_object.specs.Ids.{zeros}
use Rattle.git_object.specs.Names.{components}
use Rattle.git_object.specs.Objects.{Pair, pair_id}
use Rattle.git_object.specs.References.{attestations_name}
use Rattle.git_object.specs.Repository.{Repository}
use Rattle.git_object.specs.declared.kinds.Kind.TheVariants as kind
use Rattle.keeper_api.specs.declared.changes.Change.{Change}
use Rattle.dsse_envelope.specs.Written.{IsWritable, text_of}
use Rattle.dsse_envelope.specs.declared.envelope.Envelope.{Envelope}
use Rattle.tree_paths.specs.Readings.{Trees}
use Rattle.tree_paths.specs.Repositories.{readings_of}
use Rattle.tree_paths.specs.States.{root_of}
use Rattle.tree_paths.specs.declared.heads.Peeled.{Peeled}
use Rattle.tree_paths.specs.declared.heads.Peeled.TheVariants.{At, Bad, Nothing}
use Rattle.approvals.specs.Approvals.{approval_path, is_approval}
use Rattle.object_making.specs.Keeping.{IsTreeObject}
use Rattle.approvals.specs.Files.{Putting, put_file}
use Rattle.approvals.specs.declared.attesting.Attested.{Attested}

-- an approval for a reference, a target and a tree that can be written, in at most 1 MiB
pub record IsAttestable (name from tree : List ℕ) (envelope : Envelope) : Type 0 where
  pub approves : is_approval name from tree envelope ≡ true
  pub writable : IsWritable envelope
  pub small : length (text_of envelope) ≤ 1048576

-- the approval as an object
abbrev pub approval_pair : Envelope → Pair
approval_pair envelope = record { kind = kind.Blob; body = text_of envelope }

-- what stands in the commit after its tree and its parent
abbrev pub commit_rest : List ℕ → List ℕ
commit_rest author = codes "author "
    ++ (author ++ 10 ∷ (codes "committer " ++ (author ++ 10 ∷ 10 ∷ (codes "approve" ++ 10 ∷ []))))

-- the commit as an object
abbrev pub commit_pair : List ℕ → List (List ℕ) → List ℕ → Pair
commit_pair root parents author = record { kind = kind.Commit; body = commit_lines root parents ++ commit_rest author }

-- the new blob, the new trees and the new commit, to which the reference is set
abbrev pub change_of : Pair → List Pair → Pair → Change
change_of blob trees commit = record {
  objects = blob ∷ (trees ++ commit ∷ []);
  refs = record { name = attestations_name; to = Some (pair_id commit) } ∷ [];
}

-- the parent of the new commit: the commit before it, if there is one
abbrev pub parents_of : Option (List ℕ) → List (List ℕ)
parents_of None = []
parents_of (Some commit) = commit ∷ []

abbrev pub attested_with : Pair → List ℕ → Option (List ℕ) → Putting → Result Attested (List ℕ)
attested_with blob author parent (Err id) = Err id
attested_with blob author parent (Ok made) = Ok (record {
  change = change_of blob made.objects (commit_pair made.root (parents_of parent) author);
  commit = pair_id (commit_pair made.root (parents_of parent) author);
})

-- the attestations after the old target was peeled: nothing was there, or a commit of a tree
abbrev pub attested_after : Trees → Pair → List ℕ → List (List ℕ) → Peeled → Result Attested (List ℕ)
attested_after trees blob author names (Bad id) = Err id
attested_after trees blob author names Nothing =
    attested_with blob author None (put_file trees (pair_id blob) names None)
attested_after trees blob author names (At commit tree) =
    attested_with blob author (Some commit) (put_file trees (pair_id blob) names (Some tree))

-- the id at which a reference stands, zeros where it is not there
abbrev pub target_in : Option (List ℕ) → List ℕ
target_in None = zeros
target_in (Some id) = id

-- the change that puts an approval at its path among the attestations of a target, or the first object that is in the
-- way
unfoldable pub attested : Repository → List ℕ → List ℕ → List ℕ → List ℕ → Envelope → List ℕ → Result Attested (List ℕ)
attested r attestations name from tree envelope author =
    attested_after (readings_of r).trees (approval_pair envelope) author (components (approval_path name from tree))
    (root_of (readings_of r).heads attestations)

-- whatever is told of the old attestations: a new blob, new trees and a commit of one of them, to which the one
-- reference
-- is set
pub record HasChange (blob : Pair) (author : List ℕ) (parent : Option (List ℕ)) (a : Attested) : Type 0 where
  pub trees : List Pair
  pub are_trees : AllByRecursion IsTreeObject trees
  pub root : List ℕ
  pub change_is : a.change ≡ change_of blob trees (commit_pair root (parents_of parent) author)
  pub commit_is : a.commit ≡ pair_id (commit_pair root (parents_of parent) author)

-- the same after a commit or after nothing
pub record IsChange (blob : Pair) (author : List ℕ) (a : Attested) : Type 0 where
  pub parent : Option (List ℕ)
  pub has : HasChange blob author parent a
