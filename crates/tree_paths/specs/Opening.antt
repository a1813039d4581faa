-- The entries of a tree that what is known lends, or that was read.
use Rattle.std.specs.Prelude.{List}
use Rattle.git_object.specs.declared.trees.TreeEntry.{TreeEntry}
use Rattle.tree_paths.specs.declared.opened_trees.Opened.{Opened}
use Rattle.tree_paths.specs.declared.opened_trees.Opened.TheVariants.{Lent, Read}

abbrev pub entries_in : Opened → List TreeEntry
entries_in (Lent tree) = tree.now
entries_in (Read tree) = tree
