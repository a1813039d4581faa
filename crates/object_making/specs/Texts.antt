-- The commits that the program itself writes.
use Rattle.std.specs.Prelude.{◌++◌, ◌∷◌, [], ℕ, List, Option, Some, None, codes, decimal}
use Rattle.git_object.specs.Commits.{commit_lines}
use Rattle.git_object.specs.Objects.{Pair}
use Rattle.git_object.specs.declared.kinds.Kind.TheVariants as kind

-- who writes a commit, and when, as Git writes a person and a time: the program, and the seconds since the beginning of
-- 1970 (UTC)
unfoldable pub author_of : ℕ → List ℕ
author_of seconds = codes "gittuf <gittuf@localhost> " ++ decimal seconds ++ codes " +0000"

-- what stands in a commit after its tree and its parents
unfoldable pub commit_rest : List ℕ → List ℕ → List ℕ
commit_rest author message = codes "author " ++ (author ++ 10 ∷ (codes "committer " ++ (author ++ 10 ∷ 10 ∷ message)))

-- the parents: the one, if there is one
abbrev pub parents_of : Option (List ℕ) → List (List ℕ)
parents_of None = []
parents_of (Some id) = id ∷ []

-- a commit of a tree after at most one parent
abbrev pub commit_pair : List ℕ → Option (List ℕ) → ℕ → List ℕ → Pair
commit_pair tree parent seconds message =
    record {
      kind = kind.Commit;
      body = commit_lines tree (parents_of parent) ++ commit_rest (author_of seconds) message;
    }
