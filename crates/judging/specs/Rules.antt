-- The rules of judging, as functions that are given: P is a policy, and F a fault.
use Rattle.std.specs.Prelude.{ℕ, Bool, false, List, Option, Some, None, Result}
use Rattle.std.specs.Str.{bytes_eq}
use Rattle.git_object.specs.Repository.{Repository}
use Rattle.rsl_chain.specs.declared.entries.Entry.{Entry}

-- each of them in the repository in which the entry is judged; the last four bound the reads of an object that a
-- store makes where it answers for a rule
pub record Rules (P F : Type 0) : Type 0 where
  -- the fault of an entry where no policy is in force
  pub no_policy : F
  -- the policy that an entry of the policy's reference opens under the one in force, or its fault
  pub epoch : Repository → Option P → Entry → Result P F
  -- the fault of another reference's entry under the policy in force, by the reference's target before and the
  -- attestations before
  pub fault : Repository → P → Entry → List ℕ → Option (List ℕ) → Option F
  -- the keys that signed for such an entry
  pub signers : Repository → P → Entry → List ℕ → Option (List ℕ) → List (List ℕ)
  -- the tree of a target's state, where the state is whole or absent
  pub tree_of : Repository → List ℕ → Option (List ℕ)
  -- the key of a policy that signed an annotation
  pub skipper : P → Entry → Option (List ℕ)
  -- whether a key may skip entries of a reference
  pub may_skip : P → List ℕ → List ℕ → Bool
  pub epoch_reads : Repository → Option P → Entry → ℕ
  -- whether the reads for a change from one target to another are bounded
  pub bounded : Repository → List ℕ → List ℕ → Bool
  pub fault_reads : Repository → P → Entry → List ℕ → Option (List ℕ) → ℕ
  pub tree_reads : Repository → List ℕ → List ℕ → ℕ

-- two trees that are there and are one
abbrev pub is_same_tree : Option (List ℕ) → Option (List ℕ) → Bool
is_same_tree (Some a) (Some b) = bytes_eq a b
is_same_tree (Some a) None = false
is_same_tree None other = false

-- whether the two targets have one tree
abbrev pub same_tree : {P F : Type 0} → Rules P F → Repository → List ℕ → List ℕ → Bool
same_tree rules r from to = is_same_tree (rules.tree_of r from) (rules.tree_of r to)
