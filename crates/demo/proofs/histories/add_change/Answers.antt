use Rattle.std.proofs.Common.{◌≡◌, ◌∙◌, ◌+◌, ◌++◌, ◌∷◌, [], ap, sym}
use Rattle.std.specs.Prelude.{Some, codes}
use Rattle.git_object.specs.Objects.{pair_id}
use Rattle.object_making.specs.Texts.{commit_pair}
use Rattle.demo.specs.Histories.{change_commit, change_entry, main_after, tip_after, uses_after}
use Rattle.demo.specs.Trees.{tree_objects}
use Rattle.demo.proofs.JoinedObjects.{change_parts}
use Rattle.demo.proofs.NextSteps.{main_next, objects_next, tip_next}
use Rattle.demo.proofs.histories.add_change.Goals as goal

pub returns : goal.returns
returns c =
    let was = c.requires.at in
    let commit : c.in_ok-commit.commit ≡ change_commit (c.args.done + 1) (main_after c.args.done) =
    c.in_ok-commit.ensures ∙ (λ j. commit_pair (c.in_ok-root.ensures.root j) (was.main j) (c.args.done + 1) (codes "snapshot\n")) in
    let main : c.in_ok-main.main ≡ pair_id (change_commit (c.args.done + 1) (main_after c.args.done)) = c.in_ok-main.ensures.id ∙ ap pair_id commit in
    let entry : c.in_ok-entry.entry ≡ change_entry (c.args.done + 1) (uses_after c.args.done) (tip_after c.args.done) (pair_id (change_commit (c.args.done + 1) (main_after c.args.done))) =
    c.in_ok-entry.ensures.entry ∙ (λ j. change_entry (c.args.done + 1) (uses_after c.args.done) (was.tip j) (main j)) in
    record {
      objects =
          change_parts c.args.history.now.objects c.write_trees.new.objects c.keep.new.objects c.keep-2.new.objects (tree_objects (c.args.done + 1)) c.in_ok-commit.commit c.in_ok-entry.entry
          c.in_ok-root.ensures.objects c.in_ok-main.ensures.kept c.in_ok-tip.ensures.kept
          ∙ (λ j. (was.objects j) ++ (tree_objects (c.args.done + 1) ++ commit j ∷ entry j ∷ []))
          ∙ sym (objects_next c.args.done);
      keys = c.in_ok-entry.ensures.keys;
      src = c.in_ok-root.ensures.src;
      key_files = c.in_ok-root.ensures.keys;
      main = ap Some main ∙ sym (main_next c.args.done);
      tip = c.in_ok-tip.ensures.id ∙ ap pair_id entry ∙ sym (tip_next c.args.done);
    }
