use Rattle.std.proofs.Common.{rules, true, ap, subst, ◌≡◌, ◌∙◌, ◌≤◌, ◌==◌, ◌+◌, ◌-◌, List, arith, length, sym}
use Rattle.keeper_api.proofs.Coming.{as_before_then}
use Rattle.tree_paths.specs.Pairings.{AreFew, IsPaired}
use Rattle.tree_paths.specs.Walks.{below, steps}
use Rattle.tree_paths.specs.declared.counts.Counts.{Counts}
use Rattle.tree_paths.proofs.ObjectsRead.{kept_told, some_at}
use Rattle.tree_paths.proofs.Judging.{judge_shut, piece_of, root_cut, zero_test}
use Rattle.tree_paths.proofs.SideBySide.{both_go, both_is, first_breaks, goes_at, goes_open, second_breaks}
use Rattle.tree_paths.proofs.double_walk.+twice.Goals as goal

pub twice_tree-returns-in_default-clause-steps : goal.twice_tree-returns-in_default-clause-steps
twice_tree-returns-in_default-clause-steps g t c = λ readings front told is.
    sym (judge_shut readings.trees c.args.left front c.args.id.now (c.args.len == 0) c.args.start.from (root_cut c.args.len (length front) is)
    (sym c.in_default.is ∙ c.in_ok-entries.ensures.read readings told))

pub twice_tree-entries-init : goal.twice_tree-entries-init
twice_tree-entries-init g t c =
    let level : 1 ≤ c.args.left = some_at (λ (entries : List _). 1 ≤ c.args.left) c.in_ok-entries.field-0 c.in-Some.entries c.in_ok-entries.ensures.level c.in-Some.is in
    let some : length c.in-Some.entries ≡ 0 → (c.args.len == 0) ≡ true = some_at (λ (entries : List _). length entries ≡ 0 → (c.args.len == 0) ≡ true) c.in_ok-entries.field-0 c.in-Some.entries c.in_ok-entries.ensures.some c.in-Some.is in
    let paths_from : c.count_dir.result.paths ≡ c.args.start.from.paths = ap (λ (x : Counts). x.paths) c.count_dir.ensures in
    let dirs_from : c.count_dir.result.dirs ≡ c.args.start.from.dirs + 1 = ap (λ (x : Counts). x.dirs) c.count_dir.ensures in
    let paths_to : c.count_dir-2.result.paths ≡ c.args.start.to.paths = ap (λ (x : Counts). x.paths) c.count_dir-2.ensures in
    let dirs_to : c.count_dir-2.result.dirs ≡ c.args.start.to.dirs + 1 = ap (λ (x : Counts). x.dirs) c.count_dir-2.ensures in
    let all_of : length c.as_slice-rest.result.now ≡ 0 → 32 ≤ c.args.left = λ none. c.requires.root (zero_test c.args.len (some (ap length (sym c.as_slice-rest.ensures) ∙ none))) in
    record {
      walk = λ readings front told is.
          goes_open readings.trees c.args.left front c.args.id.now (c.args.len == 0) c.in-Some.entries c.as_slice-rest.result.now c.args.start (record { from = c.count_dir.result; to = c.count_dir-2.result })
          level (root_cut c.args.len (length front) is) (sym c.in-Some.is ∙ c.in_ok-entries.ensures.read readings told) c.as_slice-rest.ensures c.count_dir.ensures c.count_dir-2.ensures;
      same = search rules;
      quiet = search rules;
      few_from = omega (arith, paths_from, c.requires.few_from);
      few_to = omega (arith, paths_to, c.requires.few_to);
      room_from = omega (arith, paths_from, dirs_from, c.requires.room_from);
      room_to = omega (arith, paths_to, dirs_to, c.requires.room_to);
      full_from = λ none less. let all = all_of none in absurd (omega arith);
      full_to = λ none less. let all = all_of none in absurd (omega arith);
      spent = let reads = c.in_ok-entries.ensures.reads in omega (arith, dirs_from, reads);
    }

pub twice_tree-returns-in-FromBroken-clause-steps : goal.twice_tree-returns-in-FromBroken-clause-steps
twice_tree-returns-in-FromBroken-clause-steps g t c = λ readings front told is.
    let trees = readings.trees in
    let into = steps trees (c.args.left - 1) in
    let all = steps trees c.args.left front c.args.id.now in
    let piece = piece_of into c.args.id.now front c.in-Some-split_first.entry.now in
    let more = below into c.args.id.now front c.in-Some-split_first.more.now in
    first_breaks trees all all c.args.start piece more piece more c.entries.counts c.in-FromBroken.bad
    (goes_at trees all c.args.start into c.args.id.now front c.entries.rest.now c.in-Some-split_first.more.now c.in-Some-split_first.entry.now c.entries.counts c.in-Some-split_first.ensures.cases.0
    (c.entries.invariant.walk readings front (kept_told readings c.in_ok-bad.ensures.same.content told) is))
    (subst (IsPaired trees piece piece c.entries.counts) c.in-FromBroken.is (c.in_ok-bad.ensures.steps readings front told is))

pub twice_tree-returns-in-ToBroken-clause-steps : goal.twice_tree-returns-in-ToBroken-clause-steps
twice_tree-returns-in-ToBroken-clause-steps g t c = λ readings front told is.
    let trees = readings.trees in
    let into = steps trees (c.args.left - 1) in
    let all = steps trees c.args.left front c.args.id.now in
    let piece = piece_of into c.args.id.now front c.in-Some-split_first.entry.now in
    let more = below into c.args.id.now front c.in-Some-split_first.more.now in
    second_breaks trees all all c.args.start piece more piece more c.entries.counts c.in-ToBroken.bad
    (goes_at trees all c.args.start into c.args.id.now front c.entries.rest.now c.in-Some-split_first.more.now c.in-Some-split_first.entry.now c.entries.counts c.in-Some-split_first.ensures.cases.0
    (c.entries.invariant.walk readings front (kept_told readings c.in_ok-bad.ensures.same.content told) is))
    (subst (IsPaired trees piece piece c.entries.counts) c.in-ToBroken.is (c.in_ok-bad.ensures.steps readings front told is))

pub twice_tree-entries-preserved : goal.twice_tree-entries-preserved
twice_tree-entries-preserved g t c =
    let few : AreFew 0 c.in-BothCounted.next = both_is _ c.in_ok-bad.field-0 c.in-BothCounted.next c.in_ok-bad.ensures.few c.in-BothCounted.is in
    let room_first = few.from.room (omega arith) in
    let room_second = few.to.room (omega arith) in
    let spent : g.R.Keeper.reads c.twice_entry.new.keeper + c.entries.counts.from.dirs ≤ g.R.Keeper.reads c.entries.keeper + c.in-BothCounted.next.from.dirs = both_is _ c.in_ok-bad.field-0 c.in-BothCounted.next c.in_ok-bad.ensures.spent c.in-BothCounted.is in
    record {
      walk = λ readings front told is.
          let trees = readings.trees in
          let into = steps trees (c.args.left - 1) in
          let all = steps trees c.args.left front c.args.id.now in
          let piece = piece_of into c.args.id.now front c.in-Some-split_first.entry.now in
          let more = below into c.args.id.now front c.in-Some-split_first.more.now in
          both_go trees all all c.args.start piece more piece more c.entries.counts c.in-BothCounted.next
          (goes_at trees all c.args.start into c.args.id.now front c.entries.rest.now c.in-Some-split_first.more.now c.in-Some-split_first.entry.now c.entries.counts c.in-Some-split_first.ensures.cases.0
          (c.entries.invariant.walk readings front (kept_told readings c.in_ok-bad.ensures.same.content told) is))
          (subst (IsPaired trees piece piece c.entries.counts) c.in-BothCounted.is (c.in_ok-bad.ensures.steps readings front told is));
      same = as_before_then g.R.Keeper c.args.keeper.now c.entries.keeper c.twice_entry.new.keeper
          c.entries.invariant.same c.in_ok-bad.ensures.same;
      quiet = search rules;
      few_from = omega (arith, few.from.few);
      few_to = omega (arith, few.to.few);
      room_from = omega (arith, room_first, c.requires.levels);
      room_to = omega (arith, room_second, c.requires.levels);
      full_from = λ none less. room_first;
      full_to = λ none less. room_second;
      spent = omega (arith, spent, c.entries.invariant.spent);
    }
