use Rattle.std.proofs.Common.{sym, ◌∙◌}
use Rattle.pushes.proofs.Names.{names_in_commit, names_in_tag, names_in_tree}
use Rattle.pushes.proofs.naming.names_of.Goals as goal

pub returns-in_ok-tree_ids-in-Tree : goal.returns-in_ok-tree_ids-in-Tree
returns-in_ok-tree_ids-in-Tree c = names_in_tree c.args.object.now c.body.result.now c.in_ok-tree_ids-in-Tree.field-0.items (sym c.kind.ensures ∙ c.in-Tree.is) c.body.ensures c.in_ok-tree_ids-in-Tree.ensures

pub returns-in_ok-commit_ids-in-Commit : goal.returns-in_ok-commit_ids-in-Commit
returns-in_ok-commit_ids-in-Commit c =
    names_in_commit c.args.object.now c.body-in-Commit.result.now c.in_ok-commit_ids-in-Commit.field-0.items (sym c.kind.ensures ∙ c.in-Commit.is) c.body-in-Commit.ensures c.in_ok-commit_ids-in-Commit.ensures

pub returns-in_ok-tag_ids-in-Tag : goal.returns-in_ok-tag_ids-in-Tag
returns-in_ok-tag_ids-in-Tag c =
    names_in_tag c.args.object.now c.body-in-Tag.result.now c.in_ok-tag_ids-in-Tag.field-0.items (sym c.kind.ensures ∙ c.in-Tag.is) c.body-in-Tag.ensures c.in_ok-tag_ids-in-Tag.ensures
