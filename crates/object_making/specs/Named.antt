-- What stands under a name among entries.
use Rattle.std.specs.Prelude.{◌≡◌, Option, Some, None}
use Rattle.git_object.specs.declared.modes.Mode.{Mode}
use Rattle.git_object.specs.declared.trees.TreeEntry.{TreeEntry}
use Rattle.tree_paths.specs.Walks.{is_dir}

-- nothing, or an entry that is a directory as the mode is, or is none as it is
abbrev pub IsAlike : Mode → Option TreeEntry → Type 0
IsAlike mode None = Unit {0}
IsAlike mode (Some found) = is_dir found.mode ≡ is_dir mode
