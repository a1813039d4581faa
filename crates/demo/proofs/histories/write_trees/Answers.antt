use Rattle.std.proofs.Common.{◌≡◌, ◌∙◌, ◌+◌, ◌++◌, ◌∷◌, [], ap, sym, subst}
use Rattle.git_object.specs.Objects.{pair_id}
use Rattle.git_object.specs.Trees.{AreWellFormed}
use Rattle.demo.specs.Trees.{new_keys_tree, root_entries, root_tree, src_after, tree_objects, tree_pair}
use Rattle.demo.proofs.FormedTrees.{src_formed}
use Rattle.demo.proofs.JoinedObjects.{tree_parts}
use Rattle.demo.proofs.histories.write_trees.Goals as goal

pub tree_object-requires : goal.tree_object-requires
tree_object-requires c = subst AreWellFormed (sym c.in_ok-write_src.ensures) (src_formed (c.args.done + 1))

pub returns-clause-objects : goal.returns-clause-objects
unfolding tree_objects
returns-clause-objects c =
    let src : c.in_ok-src_tree.src_tree ≡ tree_pair (src_after (c.args.done + 1)) = c.in_ok-src_tree.ensures ∙ ap tree_pair c.in_ok-write_src.ensures in
    let root : c.in_ok-tree.tree ≡ root_tree (c.args.done + 1) =
    c.in_ok-tree.ensures ∙ (λ j. tree_pair (root_entries (c.in_ok-write_keys.ensures.key_files j) ((c.in_ok-src.ensures.id ∙ ap pair_id src) j))) in
    tree_parts c.args.objects.now c.keep.new.objects c.write_keys.new.objects c.keep-2.new.objects c.keep-3.new.objects c.in_ok-blob.blob c.in_ok-src_tree.src_tree c.in_ok-tree.tree (new_keys_tree (c.args.done + 1))
    c.in_ok-file.ensures.kept c.in_ok-write_keys.ensures.objects c.in_ok-src.ensures.kept c.in_ok-root.ensures.kept
    ∙ (λ j. c.args.objects.now ++ (c.in_ok-blob.ensures j ∷ (new_keys_tree (c.args.done + 1) ++ src j ∷ root j ∷ [])))
