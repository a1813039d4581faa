use Rattle.std.proofs.Common.{◌≡◌, ◌∙◌, ◌+◌, ◌∷◌, [], ap}
use Rattle.std.specs.Prelude.{None, codes}
use Rattle.git_object.specs.EntryParts.{entry_of}
use Rattle.git_object.specs.Objects.{pair_id}
use Rattle.git_object.specs.declared.modes.Mode.TheVariants.{Dir}
use Rattle.object_making.specs.Texts.{commit_pair}
use Rattle.demo.specs.Journals.{Uses}
use Rattle.demo.specs.Policies.{metadata_at, metadata_entries, policy_commit, policy_entries, policy_file, policy_id, policy_objects, root_file, top_file}
use Rattle.demo.specs.Trees.{tree_pair}
use Rattle.demo.proofs.JoinedObjects.{policy_parts}
use Rattle.demo.proofs.policies.make_policy.Goals as goal

once : Uses → Uses
once uses = record uses { zeroth = uses.zeroth + 1 }

pub returns-clause-objects : goal.returns-clause-objects
unfolding once root_file top_file policy_objects
returns-clause-objects c =
    let one : c.policy_file.new.keys ≡ record { zeroth = 1; first = 0; second = 0 } = c.in_ok-root_file.ensures.next ∙ ap once c.requires.unused in
    let root : c.in_ok-root_file.root_file ≡ root_file = c.in_ok-root_file.ensures.file ∙ (λ j. policy_file (c.requires.unused j).zeroth (c.in_ok-payload.ensures j)) in
    let top : c.in_ok-top_file.top_file ≡ top_file = c.in_ok-top_file.ensures.file ∙ (λ j. policy_file (one j).zeroth (c.in_ok-rules.ensures j)) in
    let metadata : c.in_ok-metadata_object.metadata_object ≡ tree_pair metadata_entries =
    c.in_ok-metadata_object.ensures ∙ (λ j. tree_pair (metadata_at ((c.in_ok-root.ensures.id ∙ ap pair_id root) j) ((c.in_ok-top.ensures.id ∙ ap pair_id top) j))) in
    let tree : c.in_ok-tree.tree ≡ tree_pair policy_entries = c.in_ok-tree.ensures ∙ (λ j. tree_pair (entry_of Dir (codes "metadata") ((c.in_ok-metadata.ensures.id ∙ ap pair_id metadata) j) ∷ [])) in
    let commit : c.in_ok-commit.commit ≡ policy_commit = c.in_ok-commit.ensures ∙ (λ j. commit_pair ((c.in_ok-id.ensures.id ∙ ap pair_id tree) j) None 0 (codes "snapshot\n")) in
    policy_parts c.args.objects.now c.keep.new.objects c.keep-2.new.objects c.keep-3.new.objects c.keep-4.new.objects c.keep-5.new.objects
    c.in_ok-root_file.root_file c.in_ok-top_file.top_file c.in_ok-metadata_object.metadata_object c.in_ok-tree.tree c.in_ok-commit.commit
    c.requires.none c.in_ok-root.ensures.kept c.in_ok-top.ensures.kept c.in_ok-metadata.ensures.kept c.in_ok-id.ensures.kept c.in_ok-policy.ensures.kept
    ∙ (λ j. root j ∷ top j ∷ metadata j ∷ tree j ∷ commit j ∷ [])

pub returns-clause-id : goal.returns-clause-id
unfolding once root_file top_file policy_id
returns-clause-id c =
    let one : c.policy_file.new.keys ≡ record { zeroth = 1; first = 0; second = 0 } = c.in_ok-root_file.ensures.next ∙ ap once c.requires.unused in
    let root : c.in_ok-root_file.root_file ≡ root_file = c.in_ok-root_file.ensures.file ∙ (λ j. policy_file (c.requires.unused j).zeroth (c.in_ok-payload.ensures j)) in
    let top : c.in_ok-top_file.top_file ≡ top_file = c.in_ok-top_file.ensures.file ∙ (λ j. policy_file (one j).zeroth (c.in_ok-rules.ensures j)) in
    let metadata : c.in_ok-metadata_object.metadata_object ≡ tree_pair metadata_entries =
    c.in_ok-metadata_object.ensures ∙ (λ j. tree_pair (metadata_at ((c.in_ok-root.ensures.id ∙ ap pair_id root) j) ((c.in_ok-top.ensures.id ∙ ap pair_id top) j))) in
    let tree : c.in_ok-tree.tree ≡ tree_pair policy_entries = c.in_ok-tree.ensures ∙ (λ j. tree_pair (entry_of Dir (codes "metadata") ((c.in_ok-metadata.ensures.id ∙ ap pair_id metadata) j) ∷ [])) in
    let commit : c.in_ok-commit.commit ≡ policy_commit = c.in_ok-commit.ensures ∙ (λ j. commit_pair ((c.in_ok-id.ensures.id ∙ ap pair_id tree) j) None 0 (codes "snapshot\n")) in
    c.in_ok-policy.ensures.id ∙ ap pair_id commit
