-- What steps add to the counts of a walk, whatever it counted before.
use Rattle.std.specs.Prelude.{◌≡◌, ◌≤◌, ◌+◌, List}
use Rattle.tree_paths.specs.Readings.{Trees}
use Rattle.tree_paths.specs.Walks.{Step, judge}
use Rattle.tree_paths.specs.declared.counts.Counts.{Counts}
use Rattle.tree_paths.specs.declared.counts.Walked.TheVariants.{Counted}

-- both counts together
abbrev pub plus : Counts → Counts → Counts
plus c d = record { paths = c.paths + d.paths; dirs = c.dirs + d.dirs; bytes = c.bytes + d.bytes }

-- after any counts that leave room for as many paths and bytes, none of the steps is bad, and they count just that
abbrev pub Adds : Trees → List Step → Counts → Type 0
Adds trees ss adds = (c : Counts) → c.paths + adds.paths ≤ 262144 → c.bytes + adds.bytes ≤ 67108864
    → judge trees ss c ≡ Counted (plus c adds)

-- where the steps done so far add this, the whole walk goes on with what is left of it
abbrev pub AddsBefore : Trees → List Step → Counts → List Step → Type 0
AddsBefore trees all done left =
    (c : Counts) → c.paths + done.paths ≤ 262144 → c.bytes + done.bytes ≤ 67108864
    → judge trees all c ≡ judge trees left (plus c done)

-- the sum of both, which is within the limits
pub record IsSum (c d sum : Counts) : Type 0 where
  pub is : sum ≡ plus c d
  pub paths : c.paths + d.paths ≤ 262144
  pub bytes : c.bytes + d.bytes ≤ 67108864
