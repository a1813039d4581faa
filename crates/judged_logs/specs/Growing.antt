-- The same log with each entry in a larger repository, and rules by which what is allowed stays allowed there.
use Rattle.std.specs.Prelude.{◌≡◌, ℕ, List, [], ◌∷◌, take, Option, Some, None, Ok}
use Rattle.git_object.specs.Repository.{Repository}
use Rattle.rsl_chain.specs.Entries.{Taken}
use Rattle.rsl_chain.specs.declared.entries.Entry.{Entry}
use Rattle.judging.specs.Logs.{policy_after}
use Rattle.judging.specs.Rules.{Rules}
use Rattle.keeper_api.specs.Growing.{Larger}

-- the same entry, to be judged in a repository that is larger
pub record Grows (t u : Taken) : Type 0 where
  pub entry_is : u.entry ≡ t.entry
  pub larger : Larger t.repository u.repository

abbrev pub AllGrow : List Taken → List Taken → Type 0
AllGrow [] [] = Unit {0}
AllGrow [] (u ∷ us) = ⊥
AllGrow (t ∷ ts) [] = ⊥
AllGrow (t ∷ ts) (u ∷ us) = Grows t u × AllGrow ts us

-- what opens in a repository opens the same policy in a larger one, what has no fault has none there, and a target
-- that has a tree has the same there
pub record Lasting {P F : Type 0} (rules : Rules P F) : Type 0 where
  pub epoch : (r s : Repository) (current : Option P) (entry : Entry) (policy : P) → Larger r s
      → rules.epoch r current entry ≡ Ok policy → rules.epoch s current entry ≡ Ok policy
  pub fault : (r s : Repository) (policy : P) (entry : Entry) (from : List ℕ) (attested : Option (List ℕ))
      → Larger r s → rules.fault r policy entry from attested ≡ None → rules.fault s policy entry from attested ≡ None
  pub tree : (r s : Repository) (target tree : List ℕ) → Larger r s → rules.tree_of r target ≡ Some tree
      → rules.tree_of s target ≡ Some tree

-- the same policy is in force behind each front of both
abbrev pub SameEpochs : {P F : Type 0} → Rules P F → List Taken → List Taken → Type 0
SameEpochs rules log more = (n : ℕ) → policy_after rules (take n more) ≡ policy_after rules (take n log)
