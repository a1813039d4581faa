-- Whether a commit is among the first ancestors of another.
use Rattle.std.specs.Prelude.{◌≡◌, ◌≤◌, ◌<◌, ◌+◌, ℕ, true, List, length, take}
use Rattle.global_rules.specs.Order.{Parents, ancestors, commits, has_id, met, parent_lines}
use Rattle.global_rules.specs.declared.descents.Descent.{Descent}
use Rattle.global_rules.specs.declared.descents.Descent.TheVariants.{No, TooFar, Yes}

module _ (most : ℕ) (parents : Parents) (root from : List ℕ) where
  -- it is among the first so many of the order
  abbrev pub IsAncestor : Type 0
  IsAncestor = (n : ℕ) × (has_id (take most (ancestors parents root n)) from ≡ true)

  -- the order has more
  abbrev pub AreMore : Type 0
  AreMore = (n : ℕ) × (most < length (ancestors parents root n))

  abbrev pub IsDescent : Descent → Type 0
  IsDescent Yes = IsAncestor
  IsDescent TooFar = (IsAncestor → ⊥) × AreMore
  IsDescent No = (IsAncestor → ⊥) × (AreMore → ⊥)

-- how far a walk went that began at a count of reads and ended at another: so many ids had their turn, at most so many
-- of them commits; no more were read than were met, each of which is met once; and no more were met than these commits
-- name as parents, and the first
pub record IsWalked (most : ℕ) (parents : Parents) (root : List ℕ) (before now : ℕ) : Type 0 where
  pub turns : ℕ
  pub few : length (commits parents (take turns (met parents root turns))) ≤ most
  pub once : now ≤ before + length (met parents root turns)
  pub named : length (met parents root turns) ≤ 1 + parent_lines parents (take turns (met parents root turns))
