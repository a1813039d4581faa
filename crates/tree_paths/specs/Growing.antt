-- What is read in a repository and in a larger one.
use Rattle.std.specs.Prelude.{◌≡◌, ℕ, List}
use Rattle.git_object.specs.declared.kinds.Kind.{Kind}
use Rattle.keeper_api.specs.Growing.{Keeps}
use Rattle.tree_paths.specs.Readings.{Heads, Readings, Trees}
use Rattle.tree_paths.specs.declared.heads.TargetHead.TheVariants.{Next, Root}

-- each tree that is read in the first is read in the second, with the same entries
abbrev pub MoreTrees : Trees → Trees → Type 0
MoreTrees few more = (id : List ℕ) → Keeps (few id) (more id)

-- what is read as a commit or a tag in the first is so in the second
pub record MoreHeads (few more : Heads) : Type 0 where
  pub roots : (id tree : List ℕ) → few id ≡ Root tree → more id ≡ Root tree
  pub nexts : (id object : List ℕ) (names : Kind) → few id ≡ Next object names → more id ≡ Next object names

-- what is read in the first is read so in the second
pub record MoreReadings (few more : Readings) : Type 0 where
  pub trees : MoreTrees few.trees more.trees
  pub heads : MoreHeads few.heads more.heads
