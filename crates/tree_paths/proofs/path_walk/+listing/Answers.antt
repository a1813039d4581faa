use Rattle.std.proofs.Common.{rules, true, ap, ◌≡◌, ◌∙◌, ◌++◌, ◌≤◌, ◌+◌, ◌-◌, List, arith, length, sym}
use Rattle.keeper_api.proofs.Coming.{as_before_then}
use Rattle.tree_paths.specs.Listings.{leaves}
use Rattle.tree_paths.specs.Walks.{below, Grown, judge, steps}
use Rattle.tree_paths.specs.declared.counts.Counts.{Counts}
use Rattle.tree_paths.proofs.ObjectsRead.{kept_told, some_at}
use Rattle.tree_paths.proofs.Judging.{counted_is, entry_broken, entry_counted, judge_open, judge_shut, open_steps, zero_test}
use Rattle.tree_paths.proofs.SideBySide.{list_next}
use Rattle.tree_paths.proofs.path_walk.+listing.Goals as goal

pub list_tree-returns-in_default-clause-steps : goal.list_tree-returns-in_default-clause-steps
list_tree-returns-in_default-clause-steps g t c = λ readings told.
    judge_shut readings.trees c.args.left c.args.front.now c.args.id.now c.is_empty.result c.args.start c.is_empty.ensures
    (sym c.in_default.is ∙ c.in_ok-entries.ensures.read readings told)

pub list_tree-entries-init : goal.list_tree-entries-init
list_tree-entries-init g t c =
    let level : 1 ≤ c.args.left = some_at (λ (entries : List _). 1 ≤ c.args.left) c.in_ok-entries.field-0 c.in-Some.entries c.in_ok-entries.ensures.level c.in-Some.is in
    let some : length c.in-Some.entries ≡ 0 → c.is_empty.result ≡ true = some_at (λ (entries : List _). length entries ≡ 0 → c.is_empty.result ≡ true) c.in_ok-entries.field-0 c.in-Some.entries c.in_ok-entries.ensures.some c.in-Some.is in
    let paths : c.count_dir-counts.result.paths ≡ c.args.start.paths = ap (λ (x : Counts). x.paths) c.count_dir-counts.ensures in
    let dirs : c.count_dir-counts.result.dirs ≡ c.args.start.dirs + 1 = ap (λ (x : Counts). x.dirs) c.count_dir-counts.ensures in
    record {
      walk = λ readings told.
          judge_open readings.trees c.args.left c.args.front.now c.args.id.now c.is_empty.result c.in-Some.entries c.args.start level c.is_empty.ensures
          (sym c.in-Some.is ∙ c.in_ok-entries.ensures.read readings told)
          ∙ (λ i. judge readings.trees (below (steps readings.trees (c.args.left - 1)) c.args.id.now c.args.front.now (sym c.as_slice-rest.ensures i)) (sym c.count_dir-counts.ensures i));
      listed = λ readings told.
          ap (λ (ss : List _). c.args.paths.now ++ leaves ss)
          (open_steps readings.trees c.args.left c.args.front.now c.args.id.now c.is_empty.result c.in-Some.entries level (sym c.in-Some.is ∙ c.in_ok-entries.ensures.read readings told))
          ∙ (λ i. c.args.paths.now ++ leaves (below (steps readings.trees (c.args.left - 1)) c.args.id.now c.args.front.now (sym c.as_slice-rest.ensures i)));
      same = search rules;
      quiet = search rules;
      few = omega (arith, paths, c.requires.few);
      room = omega (arith, paths, dirs, c.requires.room);
      full = λ none less. let root : length c.args.front.now ≡ 0 = zero_test (length c.args.front.now) (sym c.is_empty.ensures ∙ some (ap length (sym c.as_slice-rest.ensures) ∙ none)) in let all = c.requires.root root in absurd (omega arith);
      spent = let reads = c.in_ok-entries.ensures.reads in omega (arith, dirs, reads);
    }

pub list_tree-returns-in-Broken-clause-steps : goal.list_tree-returns-in-Broken-clause-steps
list_tree-returns-in-Broken-clause-steps g t c = λ readings told.
    entry_broken readings.trees (steps readings.trees (c.args.left - 1)) c.args.id.now c.args.front.now (judge readings.trees (steps readings.trees c.args.left c.args.front.now c.args.id.now) c.args.start)
    c.entries.rest.now c.in-Some-split_first.more.now c.in-Some-split_first.entry.now c.entries.counts c.in-Broken.bad
    (c.entries.invariant.walk readings (kept_told readings c.in_ok-bad.ensures.same.content told)) c.in-Some-split_first.ensures.cases.0
    (sym c.in-Broken.is ∙ c.in_ok-bad.ensures.steps readings told)

pub list_tree-entries-preserved : goal.list_tree-entries-preserved
list_tree-entries-preserved g t c =
    let grown : Grown 0 c.entries.counts (g.R.Keeper.reads c.entries.keeper) c.in-Counted.next (g.R.Keeper.reads c.list_entry.new.keeper) = counted_is _ c.in_ok-bad.field-0 c.in-Counted.next c.in_ok-bad.ensures.grown c.in-Counted.is in
    record {
      walk = λ readings told.
          entry_counted readings.trees (steps readings.trees (c.args.left - 1)) c.args.id.now c.args.front.now (judge readings.trees (steps readings.trees c.args.left c.args.front.now c.args.id.now) c.args.start)
          c.entries.rest.now c.in-Some-split_first.more.now c.in-Some-split_first.entry.now c.entries.counts c.in-Counted.next
          (c.entries.invariant.walk readings (kept_told readings c.in_ok-bad.ensures.same.content told)) c.in-Some-split_first.ensures.cases.0
          (sym c.in-Counted.is ∙ c.in_ok-bad.ensures.steps readings told);
      listed = λ readings told.
          list_next (steps readings.trees (c.args.left - 1)) c.args.id.now c.args.front.now c.entries.rest.now c.in-Some-split_first.more.now c.in-Some-split_first.entry.now
          (c.args.paths.now ++ leaves (steps readings.trees c.args.left c.args.front.now c.args.id.now)) c.entries.paths c.list_entry.new.paths
          (c.entries.invariant.listed readings (kept_told readings c.in_ok-bad.ensures.same.content told)) c.in-Some-split_first.ensures.cases.0
          (counted_is _ c.in_ok-bad.field-0 c.in-Counted.next c.in_ok-bad.ensures.listed c.in-Counted.is readings told);
      same = as_before_then g.R.Keeper c.args.keeper.now c.entries.keeper c.list_entry.new.keeper
          c.entries.invariant.same c.in_ok-bad.ensures.same;
      quiet = search rules;
      few = omega (arith, grown.few);
      room = let room = grown.room (omega arith) in omega (arith, room, c.requires.levels);
      full = λ none less. grown.room (omega arith);
      spent = omega (arith, grown.spent, c.entries.invariant.spent);
    }
