-- What is read of a body decides what it names.
use Rattle.std.proofs.Common.{◌≡◌, ℕ, List, [], ◌∷◌, Option, inl, inr, refl, sym, ap, ◌∙◌}
use Rattle.std.specs.Prelude.{◌⊎◌}
use Rattle.git_object.specs.Commits.{IsCommitFault, IsCommitText}
use Rattle.git_object.specs.Tags.{IsTagFault, IsTagText}
use Rattle.git_object.specs.Trees.{IsTreeFault, IsTreeText}
use Rattle.git_object.specs.declared.commits.Commit.{Commit}
use Rattle.git_object.specs.Objects.{Pair}
use Rattle.git_object.specs.declared.kinds.Kind.{Kind}
use Rattle.git_object.specs.declared.kinds.Kind.TheVariants as kind_
use Rattle.git_object.specs.declared.tags.Tag.{Tag}
use Rattle.git_object.specs.declared.trees.Tree.{Tree}
use Rattle.git_object.proofs.CommitLemmas as commits
use Rattle.git_object.proofs.TagLemmas as tags
use Rattle.git_object.proofs.TreeLemmas as trees
use Rattle.git_object.proofs.Totality.{commit_decided, tag_decided, tree_decided}
use Rattle.pushes.specs.Naming.{entry_ids, ids_of_commit, ids_of_tag, ids_of_tree, names_in_body, names_of}

pub commit_is : (c : Commit) (body : List ℕ) → IsCommitText c body → ids_of_commit body (commit_decided body) ≡ c.tree ∷ c.parents
commit_is c body text = go (commit_decided body)
  where
    go : (d : ((v : Commit) × IsCommitText v body) ⊎ ((at : ℕ) × IsCommitFault body at)) → ids_of_commit body d ≡ c.tree ∷ c.parents
    go (inl found) = ap (λ (x : Commit). x.tree ∷ x.parents) (commits.one_value found.0 c body found.1 text)
    go (inr bad) = absurd (commits.apart c body bad.0 text bad.1)

pub commit_bad : (body : List ℕ) (at : ℕ) → IsCommitFault body at → ids_of_commit body (commit_decided body) ≡ []
commit_bad body at fault = go (commit_decided body)
  where
    go : (d : ((v : Commit) × IsCommitText v body) ⊎ ((at : ℕ) × IsCommitFault body at)) → ids_of_commit body d ≡ []
    go (inl found) = absurd (commits.apart found.0 body at found.1 fault)
    go (inr bad) = refl

pub tag_is : (t : Tag) (body : List ℕ) → IsTagText t body → ids_of_tag body (tag_decided body) ≡ t.object ∷ []
tag_is t body text = go (tag_decided body)
  where
    go : (d : ((v : Tag) × IsTagText v body) ⊎ ((at : ℕ) × IsTagFault body at)) → ids_of_tag body d ≡ t.object ∷ []
    go (inl found) = ap (λ (x : Tag). x.object ∷ []) (tags.one_value found.0 t body found.1 text)
    go (inr bad) = absurd (tags.apart t body bad.0 text bad.1)

pub tag_bad : (body : List ℕ) (at : ℕ) → IsTagFault body at → ids_of_tag body (tag_decided body) ≡ []
tag_bad body at fault = go (tag_decided body)
  where
    go : (d : ((v : Tag) × IsTagText v body) ⊎ ((at : ℕ) × IsTagFault body at)) → ids_of_tag body d ≡ []
    go (inl found) = absurd (tags.apart found.0 body at found.1 fault)
    go (inr bad) = refl

pub tree_is : (t : Tree) (body : List ℕ) → IsTreeText t body → ids_of_tree body (tree_decided body) ≡ entry_ids t.entries
tree_is t body text = go (tree_decided body)
  where
    go : (d : ((v : Tree) × IsTreeText v body) ⊎ ((at : ℕ) × IsTreeFault body at)) → ids_of_tree body d ≡ entry_ids t.entries
    go (inl found) = ap (λ (x : Tree). entry_ids x.entries) (trees.one_value found.0 t body found.1 text)
    go (inr bad) = absurd (trees.apart t body bad.0 text bad.1)

pub tree_bad : (body : List ℕ) (at : ℕ) → IsTreeFault body at → ids_of_tree body (tree_decided body) ≡ []
tree_bad body at fault = go (tree_decided body)
  where
    go : (d : ((v : Tree) × IsTreeText v body) ⊎ ((at : ℕ) × IsTreeFault body at)) → ids_of_tree body d ≡ []
    go (inl found) = absurd (trees.apart found.0 body at found.1 fault)
    go (inr bad) = refl

-- ---- by the kind

pub names_in_tree : (object : Pair) (body : List ℕ) (ids : List (List ℕ)) → object.kind ≡ kind_.Tree → body ≡ object.body → ids ≡ ids_of_tree body (tree_decided body) → ids ≡ names_of object
names_in_tree object body ids is body_is ids_are =
    ids_are ∙ ap (λ (b : List ℕ). ids_of_tree b (tree_decided b)) body_is ∙ ap (λ (k : Kind). names_in_body k object.body) (sym is)

pub names_in_commit : (object : Pair) (body : List ℕ) (ids : List (List ℕ)) → object.kind ≡ kind_.Commit → body ≡ object.body → ids ≡ ids_of_commit body (commit_decided body) → ids ≡ names_of object
names_in_commit object body ids is body_is ids_are =
    ids_are ∙ ap (λ (b : List ℕ). ids_of_commit b (commit_decided b)) body_is ∙ ap (λ (k : Kind). names_in_body k object.body) (sym is)

pub names_in_tag : (object : Pair) (body : List ℕ) (ids : List (List ℕ)) → object.kind ≡ kind_.Tag → body ≡ object.body → ids ≡ ids_of_tag body (tag_decided body) → ids ≡ names_of object
names_in_tag object body ids is body_is ids_are =
    ids_are ∙ ap (λ (b : List ℕ). ids_of_tag b (tag_decided b)) body_is ∙ ap (λ (k : Kind). names_in_body k object.body) (sym is)
