-- What an object names.
use Rattle.std.specs.Prelude.{ℕ, Bool, true, false, List, [], ◌∷◌, map}
use Rattle.std.specs.List.{filter}
use Rattle.std.specs.Prelude.{◌⊎◌}
use Rattle.std.proofs.Common.{inl, inr}
use Rattle.git_object.specs.Commits.{IsCommitFault, IsCommitText}
use Rattle.git_object.specs.Objects.{Pair}
use Rattle.git_object.specs.Tags.{IsTagFault, IsTagText}
use Rattle.git_object.specs.Trees.{IsTreeFault, IsTreeText}
use Rattle.git_object.specs.declared.commits.Commit.{Commit}
use Rattle.git_object.specs.declared.kinds.Kind.{Kind}
use Rattle.git_object.specs.declared.kinds.Kind.TheVariants as kind
use Rattle.git_object.specs.declared.modes.Mode.{Mode}
use Rattle.git_object.specs.declared.modes.Mode.TheVariants.{Dir, File, Exec, Link, Module}
use Rattle.git_object.specs.declared.tags.Tag.{Tag}
use Rattle.git_object.specs.declared.trees.Tree.{Tree}
use Rattle.git_object.specs.declared.trees.TreeEntry.{TreeEntry}
use Rattle.git_object.proofs.Totality.{commit_decided, tag_decided, tree_decided}

-- a commit of another repository is not followed
abbrev pub is_followed : Mode → Bool
is_followed Dir = true
is_followed File = true
is_followed Exec = true
is_followed Link = true
is_followed Module = false

abbrev pub entry_ids : List TreeEntry → List (List ℕ)
entry_ids entries = map (λ (e : TreeEntry). e.id) (filter (λ (e : TreeEntry). is_followed e.mode) entries)

abbrev pub ids_of_tree : (body : List ℕ) → ((v : Tree) × IsTreeText v body) ⊎ ((at : ℕ) × IsTreeFault body at)
    → List (List ℕ)
ids_of_tree body (inl found) = entry_ids found.0.entries
ids_of_tree body (inr bad) = []

abbrev pub ids_of_commit : (body : List ℕ) → ((v : Commit) × IsCommitText v body) ⊎ ((at : ℕ) × IsCommitFault body at)
    → List (List ℕ)
ids_of_commit body (inl found) = found.0.tree ∷ found.0.parents
ids_of_commit body (inr bad) = []

abbrev pub ids_of_tag : (body : List ℕ) → ((v : Tag) × IsTagText v body) ⊎ ((at : ℕ) × IsTagFault body at)
    → List (List ℕ)
ids_of_tag body (inl found) = found.0.object ∷ []
ids_of_tag body (inr bad) = []

-- a commit names its tree and then its parents, a tree its entries but modules, a tag its object, and what is not read
-- names nothing
abbrev pub names_in_body : Kind → List ℕ → List (List ℕ)
names_in_body kind.Blob body = []
names_in_body kind.Tree body = ids_of_tree body (tree_decided body)
names_in_body kind.Commit body = ids_of_commit body (commit_decided body)
names_in_body kind.Tag body = ids_of_tag body (tag_decided body)

abbrev pub names_of : Pair → List (List ℕ)
names_of pair = names_in_body pair.kind pair.body
