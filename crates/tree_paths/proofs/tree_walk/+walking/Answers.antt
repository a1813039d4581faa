use Rattle.std.proofs.Common.{rules, true, ap, ◌≡◌, ◌∙◌, ◌==◌, ◌≤◌, ◌+◌, ◌-◌, List, arith, length, sym}
use Rattle.git_object.specs.declared.trees.TreeEntry.{TreeEntry}
use Rattle.keeper_api.proofs.Coming.{as_before_then}
use Rattle.tree_paths.specs.Listings.{visits}
use Rattle.tree_paths.specs.Walks.{below, Grown, judge, steps}
use Rattle.tree_paths.specs.declared.counts.Counts.{Counts}
use Rattle.tree_paths.proofs.ObjectsRead.{kept_told, some_at}
use Rattle.tree_paths.proofs.Judging.{counted_is, entry_broken, entry_counted, judge_open, judge_shut, root_cut, zero_test}
use Rattle.tree_paths.proofs.Visits.{visited_once, visits_entry, visits_open}
use Rattle.tree_paths.proofs.tree_walk.+walking.Goals as goal

pub walk_tree-returns-in_err-entries-clause-visited : goal.walk_tree-returns-in_err-entries-clause-visited
walk_tree-returns-in_err-entries-clause-visited g t c = λ readings front told. visited_once readings.trees c.args.left front c.args.id.now _ _ c.in_err-entries.ensures.reads

pub walk_tree-returns-in_default-clause-visited : goal.walk_tree-returns-in_default-clause-visited
walk_tree-returns-in_default-clause-visited g t c = λ readings front told. visited_once readings.trees c.args.left front c.args.id.now _ _ c.in_ok-entries.ensures.reads

pub walk_tree-returns-in_err-bad-clause-visited : goal.walk_tree-returns-in_err-bad-clause-visited
walk_tree-returns-in_err-bad-clause-visited g t c = λ readings front told.
    let before = c.entries.invariant.visited readings front (kept_told readings c.in_err-bad.ensures.same.content told) in
    let one = c.in_err-bad.ensures.visited readings front told in
    let parts = visits_entry (steps readings.trees (c.args.left - 1)) c.args.id.now front c.entries.rest.now c.in-Some-split_first.more.now c.in-Some-split_first.entry.now c.in-Some-split_first.ensures.cases.0 in
    omega (arith, before, one, parts)

pub walk_tree-returns-in-Broken-clause-visited : goal.walk_tree-returns-in-Broken-clause-visited
walk_tree-returns-in-Broken-clause-visited g t c = λ readings front told.
    let before = c.entries.invariant.visited readings front (kept_told readings c.in_ok-bad.ensures.same.content told) in
    let one = c.in_ok-bad.ensures.visited readings front told in
    let parts = visits_entry (steps readings.trees (c.args.left - 1)) c.args.id.now front c.entries.rest.now c.in-Some-split_first.more.now c.in-Some-split_first.entry.now c.in-Some-split_first.ensures.cases.0 in
    omega (arith, before, one, parts)

pub walk_tree-returns-in_default-clause-steps : goal.walk_tree-returns-in_default-clause-steps
walk_tree-returns-in_default-clause-steps g t c = λ readings front told is.
    judge_shut readings.trees c.args.left front c.args.id.now (c.args.len == 0) c.args.start (root_cut c.args.len (length front) is)
    (sym c.in_default.is ∙ c.in_ok-entries.ensures.read readings told)

pub walk_tree-count_dir-counts-requires : goal.walk_tree-count_dir-counts-requires
walk_tree-count_dir-counts-requires g t c = omega (arith, c.requires.few, c.requires.room)

pub walk_tree-entries-init : goal.walk_tree-entries-init
walk_tree-entries-init g t c =
    let level : 1 ≤ c.args.left = some_at (λ (entries : List _). 1 ≤ c.args.left) c.in_ok-entries.field-0 c.in-Some.entries c.in_ok-entries.ensures.level c.in-Some.is in
    let some : length c.in-Some.entries ≡ 0 → (c.args.len == 0) ≡ true = some_at (λ (entries : List _). length entries ≡ 0 → (c.args.len == 0) ≡ true) c.in_ok-entries.field-0 c.in-Some.entries c.in_ok-entries.ensures.some c.in-Some.is in
    let paths : c.count_dir-counts.result.paths ≡ c.args.start.paths = ap (λ (x : Counts). x.paths) c.count_dir-counts.ensures in
    let dirs : c.count_dir-counts.result.dirs ≡ c.args.start.dirs + 1 = ap (λ (x : Counts). x.dirs) c.count_dir-counts.ensures in
    record {
      walk = λ readings front told is.
          judge_open readings.trees c.args.left front c.args.id.now (c.args.len == 0) c.in-Some.entries c.args.start level (root_cut c.args.len (length front) is)
          (sym c.in-Some.is ∙ c.in_ok-entries.ensures.read readings told)
          ∙ (λ i. judge readings.trees (below (steps readings.trees (c.args.left - 1)) c.args.id.now front (sym c.as_slice-rest.ensures i)) (sym c.count_dir-counts.ensures i));
      same = search rules;
      quiet = search rules;
      few = omega (arith, paths, c.requires.few);
      room = omega (arith, paths, dirs, c.requires.room);
      visited = λ readings front told.
          let whole = visits_open readings.trees c.args.left front c.args.id.now (c.args.len == 0) c.in-Some.entries level (sym c.in-Some.is ∙ c.in_ok-entries.ensures.read readings told) in
          let rest = ap (λ (es : List TreeEntry). visits (below (steps readings.trees (c.args.left - 1)) c.args.id.now front es)) c.as_slice-rest.ensures in
          omega (arith, whole, rest, c.in_ok-entries.ensures.reads);
      full = λ none less. let root : c.args.len ≡ 0 = zero_test c.args.len (some (ap length (sym c.as_slice-rest.ensures) ∙ none)) in let all = c.requires.root root in absurd (omega arith);
      spent = let reads = c.in_ok-entries.ensures.reads in omega (arith, dirs, reads);
    }

pub walk_tree-returns-in-Broken-clause-steps : goal.walk_tree-returns-in-Broken-clause-steps
walk_tree-returns-in-Broken-clause-steps g t c = λ readings front told is.
    entry_broken readings.trees (steps readings.trees (c.args.left - 1)) c.args.id.now front (judge readings.trees (steps readings.trees c.args.left front c.args.id.now) c.args.start)
    c.entries.rest.now c.in-Some-split_first.more.now c.in-Some-split_first.entry.now c.entries.counts c.in-Broken.bad
    (c.entries.invariant.walk readings front (kept_told readings c.in_ok-bad.ensures.same.content told) is) c.in-Some-split_first.ensures.cases.0
    (sym c.in-Broken.is ∙ c.in_ok-bad.ensures.steps readings front told is)

pub walk_tree-entries-preserved : goal.walk_tree-entries-preserved
walk_tree-entries-preserved g t c =
    let grown : Grown 0 c.entries.counts (g.R.Keeper.reads c.entries.keeper) c.in-Counted.next (g.R.Keeper.reads c.walk_entry.new.keeper) = counted_is _ c.in_ok-bad.field-0 c.in-Counted.next c.in_ok-bad.ensures.grown c.in-Counted.is in
    record {
      walk = λ readings front told is.
          entry_counted readings.trees (steps readings.trees (c.args.left - 1)) c.args.id.now front (judge readings.trees (steps readings.trees c.args.left front c.args.id.now) c.args.start)
          c.entries.rest.now c.in-Some-split_first.more.now c.in-Some-split_first.entry.now c.entries.counts c.in-Counted.next
          (c.entries.invariant.walk readings front (kept_told readings c.in_ok-bad.ensures.same.content told) is) c.in-Some-split_first.ensures.cases.0
          (sym c.in-Counted.is ∙ c.in_ok-bad.ensures.steps readings front told is);
      same = as_before_then g.R.Keeper c.args.keeper.now c.entries.keeper c.walk_entry.new.keeper
          c.entries.invariant.same c.in_ok-bad.ensures.same;
      quiet = search rules;
      few = omega (arith, grown.few);
      room = let room = grown.room (omega arith) in omega (arith, room, c.requires.levels);
      visited = λ readings front told.
          let before = c.entries.invariant.visited readings front (kept_told readings c.in_ok-bad.ensures.same.content told) in
          let one = c.in_ok-bad.ensures.visited readings front told in
          let parts = visits_entry (steps readings.trees (c.args.left - 1)) c.args.id.now front c.entries.rest.now c.in-Some-split_first.more.now c.in-Some-split_first.entry.now c.in-Some-split_first.ensures.cases.0 in
          omega (arith, before, one, parts);
      full = λ none less. grown.room (omega arith);
      spent = omega (arith, grown.spent, c.entries.invariant.spent);
    }
