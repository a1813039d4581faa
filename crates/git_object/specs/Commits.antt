-- Git's commit object: the line of its tree, the lines of its parents, and the rest, which is not looked into.
use Rattle.std.specs.Prelude.{◌≡◌, ◌≢◌, ◌⊎◌, ◌++◌, ℕ, List, length, codes}
use Rattle.std.specs.List.{AllByRecursion, flat_map}
use Rattle.text_reader.specs.Line.{Begins}
use Rattle.git_object.specs.Ids.{IsId}
use Rattle.git_object.specs.HeaderLines.{id_line}
use Rattle.git_object.specs.declared.commits.Commit.{Commit}

abbrev pub tree_line : List ℕ → List ℕ
tree_line id = id_line (codes "tree ") id

abbrev pub parent_line : List ℕ → List ℕ
parent_line id = id_line (codes "parent ") id

-- the lines of a tree and of parents
abbrev pub commit_lines : List ℕ → List (List ℕ) → List ℕ
commit_lines tree parents = tree_line tree ++ flat_map parent_line parents

-- the lines of a tree and of parents stand in front of the body, and the rest follows
pub record IsCommitFront (tree : List ℕ) (parents : List (List ℕ)) (body rest : List ℕ) : Type 0 where
  pub tree_is : IsId tree
  pub parents_are : AllByRecursion IsId parents
  pub front : body ≡ commit_lines tree parents ++ rest

-- the body is that of the commit; its rest does not begin with `parent `
pub record IsCommitText (commit : Commit) (body : List ℕ) : Type 0 where
  pub lines : IsCommitFront commit.tree commit.parents body commit.rest
  pub no_parent : (more : List ℕ) → commit.rest ≢ codes "parent " ++ more

-- the body is that of a commit
pub record IsCommit (body : List ℕ) : Type 0 where
  pub commit : Commit
  pub text : IsCommitText commit body

-- lines of parents stand in front of the text, and the rest follows
pub record HasParents (text rest : List ℕ) : Type 0 where
  pub parents : List (List ℕ)
  pub parents_are : AllByRecursion IsId parents
  pub front : text ≡ flat_map parent_line parents ++ rest

-- the body does not begin with the line of a tree
pub record HasNoTree (body : List ℕ) (at : ℕ) : Type 0 where
  pub place : at ≡ 0
  pub no_tree : (id more : List ℕ) → IsId id → body ≢ tree_line id ++ more

-- after the line of a tree and those of parents, a line begins with `parent ` and is no parent's
pub record HasBadParent (body : List ℕ) (at : ℕ) : Type 0 where
  pub tree : List ℕ
  pub parents : List (List ℕ)
  pub rest : List ℕ
  pub lines : IsCommitFront tree parents body rest
  pub place : at ≡ length (commit_lines tree parents)
  pub begins : Begins (codes "parent ") rest
  pub no_parent : (id more : List ℕ) → IsId id → rest ≢ parent_line id ++ more

-- the first line that is not as wanted begins at this place
abbrev pub IsCommitFault : List ℕ → ℕ → Type 0
IsCommitFault body at = HasNoTree body at ⊎ HasBadParent body at
