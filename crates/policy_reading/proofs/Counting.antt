-- The reads of a policy whose target's state is whole.
use Rattle.std.proofs.Common.{◌≡◌, ◌+◌, ℕ, List, [], length, refl, ap, arith}
use Rattle.git_object.specs.Repository.{Repository}
use Rattle.tree_paths.specs.Listings.{visits, visits_below}
use Rattle.tree_paths.specs.Readings.{Trees}
use Rattle.tree_paths.specs.States.{ended, ended_by, root_of, state_at, walk_of}
use Rattle.tree_paths.specs.Walks.{judge, no_counts, steps}
use Rattle.tree_paths.specs.declared.counts.Walked.{Walked}
use Rattle.tree_paths.specs.declared.counts.Walked.TheVariants.{Broken, Counted}
use Rattle.tree_paths.specs.declared.heads.Peeled.{Peeled}
use Rattle.tree_paths.specs.declared.heads.Peeled.TheVariants.{At, Bad, Nothing}
use Rattle.tree_paths.specs.declared.states.State.TheVariants as state
use Rattle.tree_paths.proofs.Pieces.{counted_dirs}
use Rattle.tree_paths.specs.Repositories.{readings_of}
use Rattle.policy_reading.specs.Metadata.{metadata_entries, rule_files}
use Rattle.policy_reading.specs.Policies.{file_reads, policy_reads}

module _ (trees : Trees) (tree : List ℕ) (paths dirs : ℕ) where
  by_walked : (root : List ℕ) (w : Walked) → judge trees (steps trees 32 [] root) no_counts ≡ w → state_at (ended_by root (steps trees 32 [] root) w) ≡ state.Whole tree paths dirs → visits (steps trees 32 [] root) ≡ dirs
  by_walked root (Broken id) is e = absurd (cc e)
  by_walked root (Counted c) is e =
      let same : c.dirs ≡ dirs = cc in let all = counted_dirs trees (steps trees 32 [] root) no_counts c is in omega (arith, same, all)

  by_end : (end : Peeled) → state_at (ended trees end) ≡ state.Whole tree paths dirs → visits_below trees end ≡ dirs
  by_end Nothing e = absurd (cc e)
  by_end (Bad id) e = absurd (cc e)
  by_end (At commit root) e = by_walked root (judge trees (steps trees 32 [] root) no_counts) refl e

pub whole_reads : (r : Repository) (target tree : List ℕ) (paths dirs : ℕ) → state_at (walk_of (readings_of r) target) ≡ state.Whole tree paths dirs
    → policy_reads r target ≡ 12 + dirs + length (rule_files (metadata_entries (readings_of r).trees tree))
unfolding policy_reads
whole_reads r target tree paths dirs is =
    let visited = by_end (readings_of r).trees tree paths dirs (root_of (readings_of r).heads target) is in
    let files = ap (file_reads (readings_of r)) is in
    omega (arith, visited, files)
