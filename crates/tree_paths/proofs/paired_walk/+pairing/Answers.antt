use Rattle.std.proofs.Common.{rules, true, ap, subst, ◌≡◌, ◌∙◌, ◌≤◌, ◌+◌, ◌-◌, ◌∷◌, ℕ, List, Option, Some, None, arith, length, sym, refl}
use Rattle.std.specs.Option.{option_copied, option_map}
use Rattle.git_object.specs.Trees.{AreWellFormed}
use Rattle.git_object.specs.declared.trees.TreeEntry.{TreeEntry}
use Rattle.keeper_api.proofs.Coming.{as_before_then}
use Rattle.tree_paths.specs.Opening.{entries_in}
use Rattle.tree_paths.specs.Pairings.{IsPaired, Sides}
use Rattle.tree_paths.specs.Places.{piece}
use Rattle.tree_paths.specs.Readings.{Readings, Told}
use Rattle.tree_paths.specs.Walks.{Step, Visit, below, is_dir, judge, opened, place_of, steps}
use Rattle.tree_paths.specs.declared.counts.Counts.{Counts}
use Rattle.tree_paths.specs.declared.opened_trees.Opened.{Opened}
use Rattle.tree_paths.proofs.ObjectsRead.{kept_told, some_at}
use Rattle.tree_paths.proofs.Judging.{judge_open, judge_shut, longer_place, open_steps, piece_of, zero_test}
use Rattle.tree_paths.proofs.Order.{steps_under}
use Rattle.tree_paths.proofs.SideBySide.{both_by, both_go, both_is, first_breaks, second_breaks}
use Rattle.tree_paths.proofs.Turns.{dir_steps, goes_place, kept_start, paired_at, place_next, placed, rest_start, same_piece, sides_both, takes_next, twice_piece}
use Rattle.tree_paths.proofs.paired_walk.+pairing.Goals as goal

pub pair_entries-returns-then-not-is_dir-clause-steps : goal.pair_entries-returns-then-not-is_dir-clause-steps
pair_entries-returns-then-not-is_dir-clause-steps g t c = λ readings told.
    c.in_ok-paired.ensures.steps readings.trees (steps readings.trees (c.args.left - 1))

pub pair_entries-returns-then-same_id-clause-steps : goal.pair_entries-returns-then-same_id-clause-steps
pair_entries-returns-then-same_id-clause-steps g t c = λ readings told.
    let into = steps readings.trees (c.args.left - 1) in
    let e = c.args.first.now in
    let f = c.args.second.now in
    let dir : is_dir e.mode ≡ true = sym c.if-not-is_dir.ensures in
    let here = into (place_of c.args.front.now e) e.id in
    paired_at (λ (xs ys : List Step). IsPaired readings.trees xs ys c.args.counts c.in_ok-paired-2.paired) (piece_of into c.args.from.now c.args.front.now e) (piece_of into c.args.to.now c.args.front.now f) here here
    (dir_steps into c.args.from.now c.args.front.now e dir) (twice_piece into c.args.from.now c.args.to.now c.args.front.now e f c.requires.one dir (sym c.if-same_id.ensures))
    (c.in_ok-paired-2.ensures.steps readings (place_of c.args.front.now e) told (longer_place c.cut.result c.longer-long.result c.args.front.now e c.cut.ensures c.longer-long.ensures))

pub pair_entries-returns-then-same_id-clause-sides : goal.pair_entries-returns-then-same_id-clause-sides
pair_entries-returns-then-same_id-clause-sides g t c =
    both_by _ c.in_ok-paired-2.paired (λ d is. λ readings told.
    let into = steps readings.trees (c.args.left - 1) in
    let e = c.args.first.now in
    let f = c.args.second.now in
    let dir : is_dir e.mode ≡ true = sym c.if-not-is_dir.ensures in
    let here = into (place_of c.args.front.now e) e.id in
    let spent : g.R.Keeper.reads c.pass_tree.new.keeper + c.args.counts.from.dirs ≤ g.R.Keeper.reads c.args.keeper.now + d.from.dirs = both_is _ c.in_ok-paired-2.paired d c.in_ok-paired-2.ensures.spent is in
    let counted = subst (IsPaired readings.trees here here c.args.counts) is
    (c.in_ok-paired-2.ensures.steps readings (place_of c.args.front.now e) told (longer_place c.cut.result c.longer-long.result c.args.front.now e c.cut.ensures c.longer-long.ensures)) in
    paired_at (λ (xs ys : List Step). Sides xs ys c.args.paths.now c.args.paths.now (g.R.Keeper.reads c.args.keeper.now) (g.R.Keeper.reads c.pass_tree.new.keeper)) (piece_of into c.args.from.now c.args.front.now e) (piece_of into c.args.to.now c.args.front.now f) here here
    (dir_steps into c.args.from.now c.args.front.now e dir) (twice_piece into c.args.from.now c.args.to.now c.args.front.now e f c.requires.one dir (sym c.if-same_id.ensures))
    (sides_both readings.trees here c.args.counts.from d.from c.args.paths.now c.args.paths.now (g.R.Keeper.reads c.args.keeper.now) (g.R.Keeper.reads c.pass_tree.new.keeper) counted.0 refl spent))

pub pair_entries-returns-clause-steps : goal.pair_entries-returns-clause-steps
pair_entries-returns-clause-steps g t c = λ readings told.
    let into = steps readings.trees (c.args.left - 1) in
    let e = c.args.first.now in
    let f = c.args.second.now in
    let dir : is_dir e.mode ≡ true = sym c.if-not-is_dir.ensures in
    let place : c.as_slice.result.now ≡ place_of c.args.front.now e = c.as_slice.ensures ∙ c.in_ok-place.ensures in
    paired_at (λ (xs ys : List Step). IsPaired readings.trees xs ys c.args.counts c.in_ok-paired-3.paired) (piece_of into c.args.from.now c.args.front.now e) (piece_of into c.args.to.now c.args.front.now f)
    (into c.as_slice.result.now e.id) (into c.as_slice.result.now f.id)
    (dir_steps into c.args.from.now c.args.front.now e dir ∙ ap (λ (p : List ℕ). into p e.id) (sym place)) (same_piece into c.args.to.now c.args.front.now e f c.requires.one dir ∙ ap (λ (p : List ℕ). into p f.id) (sym place))
    (c.in_ok-paired-3.ensures.steps readings told)

pub pair_place-returns-in_ok-paired-in-Some-second-clause-steps : goal.pair_place-returns-in_ok-paired-in-Some-second-clause-steps
pair_place-returns-in_ok-paired-in-Some-second-clause-steps g t c = λ readings told.
    placed (λ (a b : Option TreeEntry). IsPaired readings.trees (piece (steps readings.trees (c.args.left - 1)) c.args.from.now c.args.front.now a) (piece (steps readings.trees (c.args.left - 1)) c.args.to.now c.args.front.now b) c.args.counts c.in_ok-paired-in-Some-second.paired)
    (option_copied c.args.first) (option_copied c.args.second) (Some c.in-Some.first.now) (Some c.in-Some-second.second.now) (ap option_copied c.in-Some.is) (ap option_copied c.in-Some-second.is)
    (c.in_ok-paired-in-Some-second.ensures.steps readings told)

pub pair_place-returns-in_ok-paired-in-None-second-clause-steps : goal.pair_place-returns-in_ok-paired-in-None-second-clause-steps
pair_place-returns-in_ok-paired-in-None-second-clause-steps g t c = λ readings told.
    placed (λ (a b : Option TreeEntry). IsPaired readings.trees (piece (steps readings.trees (c.args.left - 1)) c.args.from.now c.args.front.now a) (piece (steps readings.trees (c.args.left - 1)) c.args.to.now c.args.front.now b) c.args.counts c.in_ok-paired-in-None-second.paired)
    (option_copied c.args.first) (option_copied c.args.second) (Some c.in-Some.first.now) None (ap option_copied c.in-Some.is) (ap option_copied c.in-None-second.is)
    (c.in_ok-paired-in-None-second.ensures.steps readings told)

pub pair_place-returns-in_ok-paired-in-Some-second-2-clause-steps : goal.pair_place-returns-in_ok-paired-in-Some-second-2-clause-steps
pair_place-returns-in_ok-paired-in-Some-second-2-clause-steps g t c = λ readings told.
    placed (λ (a b : Option TreeEntry). IsPaired readings.trees (piece (steps readings.trees (c.args.left - 1)) c.args.from.now c.args.front.now a) (piece (steps readings.trees (c.args.left - 1)) c.args.to.now c.args.front.now b) c.args.counts c.in_ok-paired-in-Some-second-2.paired)
    (option_copied c.args.first) (option_copied c.args.second) None (Some c.in-Some-second-2.second.now) (ap option_copied c.in-None.is) (ap option_copied c.in-Some-second-2.is)
    (c.in_ok-paired-in-Some-second-2.ensures.steps readings told)

pub pair_trees-returns-in_default-clause-steps : goal.pair_trees-returns-in_default-clause-steps
pair_trees-returns-in_default-clause-steps g t c = λ readings told.
    sym (judge_shut readings.trees c.args.left c.args.front.now c.args.from.now c.is_empty.result c.args.start.from c.is_empty.ensures (sym (ap (option_map entries_in) c.in_default.is) ∙ c.in_ok-first.ensures.read readings told))

pub pair_trees-returns-in_default-2-clause-steps : goal.pair_trees-returns-in_default-2-clause-steps
pair_trees-returns-in_default-2-clause-steps g t c = λ readings told.
    sym (judge_shut readings.trees c.args.left c.args.front.now c.args.to.now c.is_empty-2.result c.args.start.to c.is_empty-2.ensures (sym (ap (option_map entries_in) c.in_default-2.is) ∙ c.in_ok-second.ensures.read readings told))

pub pair_trees-places-init : goal.pair_trees-places-init
pair_trees-places-init g t c =
    let level : 1 ≤ c.args.left = some_at (λ (tree : Opened). 1 ≤ c.args.left) c.in_ok-first.field-0 c.in-Some.first c.in_ok-first.ensures.level c.in-Some.is in
    let some_from : length (entries_in c.in-Some.first) ≡ 0 → c.is_empty.result ≡ true = some_at (λ (tree : Opened). length (entries_in tree) ≡ 0 → c.is_empty.result ≡ true) c.in_ok-first.field-0 c.in-Some.first c.in_ok-first.ensures.some c.in-Some.is in
    let some_to : length (entries_in c.in-Some-2.second) ≡ 0 → c.is_empty-2.result ≡ true = some_at (λ (tree : Opened). length (entries_in tree) ≡ 0 → c.is_empty-2.result ≡ true) c.in_ok-second.field-0 c.in-Some-2.second c.in_ok-second.ensures.some c.in-Some-2.is in
    let opens_from : (readings : Readings) → Told (g.R.Keeper.content c.open_known-2.new.keeper) readings → Some (entries_in c.in-Some.first) ≡ opened c.args.left c.is_empty.result (readings.trees c.args.from.now) =
    λ readings told. sym (ap (option_map entries_in) c.in-Some.is) ∙ c.in_ok-first.ensures.read readings (kept_told readings c.in_ok-second.ensures.same.content told) in
    let opens_to : (readings : Readings) → Told (g.R.Keeper.content c.open_known-2.new.keeper) readings → Some (entries_in c.in-Some-2.second) ≡ opened c.args.left c.is_empty-2.result (readings.trees c.args.to.now) =
    λ readings told. sym (ap (option_map entries_in) c.in-Some-2.is) ∙ c.in_ok-second.ensures.read readings told in
    let first_reads = c.in_ok-first.ensures.reads in
    let second_reads = c.in_ok-second.ensures.reads in
    let spent : g.R.Keeper.reads c.open_known-2.new.keeper ≤ g.R.Keeper.reads c.args.keeper.now + 2 = omega (arith, first_reads, second_reads) in
    record {
      walk = λ readings told.
          let into = steps readings.trees (c.args.left - 1) in
          record {
            first = judge_open readings.trees c.args.left c.args.front.now c.args.from.now c.is_empty.result (entries_in c.in-Some.first) c.args.start.from level c.is_empty.ensures (opens_from readings told)
                ∙ (λ i. judge readings.trees (below into c.args.from.now c.args.front.now (sym c.as_slice-rest_from.ensures i)) (sym c.count_dir.ensures i));
            second = judge_open readings.trees c.args.left c.args.front.now c.args.to.now c.is_empty-2.result (entries_in c.in-Some-2.second) c.args.start.to level c.is_empty-2.ensures (opens_to readings told)
                ∙ (λ i. judge readings.trees (below into c.args.to.now c.args.front.now (sym c.as_slice-rest_to.ensures i)) (sym c.count_dir-2.ensures i));
          };
      rest = λ readings told.
          let into = steps readings.trees (c.args.left - 1) in
          rest_start readings.trees c.args.left c.args.front.now c.args.from.now c.args.to.now (below into c.args.from.now c.args.front.now c.as_slice-rest_from.result.now) (below into c.args.to.now c.args.front.now c.as_slice-rest_to.result.now)
          c.args.paths.now (g.R.Keeper.reads c.args.keeper.now) (g.R.Keeper.reads c.open_known-2.new.keeper) c.requires.other
          (open_steps readings.trees c.args.left c.args.front.now c.args.from.now c.is_empty.result (entries_in c.in-Some.first) level (opens_from readings told)
          ∙ (λ i. Visit c.args.left c.args.front.now c.args.from.now ∷ below into c.args.from.now c.args.front.now (sym c.as_slice-rest_from.ensures i)))
          (open_steps readings.trees c.args.left c.args.front.now c.args.to.now c.is_empty-2.result (entries_in c.in-Some-2.second) level (opens_to readings told)
          ∙ (λ i. Visit c.args.left c.args.front.now c.args.to.now ∷ below into c.args.to.now c.args.front.now (sym c.as_slice-rest_to.ensures i)))
          spent;
      formed_from = subst AreWellFormed (sym c.as_slice-rest_from.ensures) (some_at (λ (tree : Opened). AreWellFormed (entries_in tree)) c.in_ok-first.field-0 c.in-Some.first c.in_ok-first.ensures.formed c.in-Some.is);
      formed_to = subst AreWellFormed (sym c.as_slice-rest_to.ensures) (some_at (λ (tree : Opened). AreWellFormed (entries_in tree)) c.in_ok-second.field-0 c.in-Some-2.second c.in_ok-second.ensures.formed c.in-Some-2.is);
      same = as_before_then g.R.Keeper c.args.keeper.now c.open_known.new.keeper c.open_known-2.new.keeper
          c.in_ok-first.ensures.same c.in_ok-second.ensures.same;
      quiet = search rules;
      kept_from = kept_start c.args.left c.as_slice-rest_from.result.now c.args.start.from c.count_dir.result (length c.args.front.now) c.requires.few_from c.requires.room_from
          (ap (λ (x : Counts). x.paths) c.count_dir.ensures) (ap (λ (x : Counts). x.dirs) c.count_dir.ensures)
          (λ none. zero_test (length c.args.front.now) (sym c.is_empty.ensures ∙ some_from (ap length (sym c.as_slice-rest_from.ensures) ∙ none))) c.requires.root;
      kept_to = kept_start c.args.left c.as_slice-rest_to.result.now c.args.start.to c.count_dir-2.result (length c.args.front.now) c.requires.few_to c.requires.room_to
          (ap (λ (x : Counts). x.paths) c.count_dir-2.ensures) (ap (λ (x : Counts). x.dirs) c.count_dir-2.ensures)
          (λ none. zero_test (length c.args.front.now) (sym c.is_empty-2.ensures ∙ some_to (ap length (sym c.as_slice-rest_to.ensures) ∙ none))) c.requires.root;
    }

pub pair_trees-returns-in-FromBroken-clause-steps : goal.pair_trees-returns-in-FromBroken-clause-steps
pair_trees-returns-in-FromBroken-clause-steps g t c = λ readings told.
    let trees = readings.trees in
    let into = steps trees (c.args.left - 1) in
    let front = c.args.front.now in
    let all_from = steps trees c.args.left front c.args.from.now in
    let all_to = steps trees c.args.left front c.args.to.now in
    let e = option_copied c.in-Some-next_place.next.from in
    let f = option_copied c.in-Some-next_place.next.to in
    let rest_from = c.in-Some-next_place.next.rest_from.now in
    let rest_to = c.in-Some-next_place.next.rest_to.now in
    let before = kept_told readings c.in_ok-bad.ensures.same.content told in
    first_breaks trees all_from all_to c.args.start (piece into c.args.from.now front e) (below into c.args.from.now front rest_from) (piece into c.args.to.now front f) (below into c.args.to.now front rest_to) c.places.counts c.in-FromBroken.bad
    (goes_place trees all_from all_to into c.args.from.now c.args.to.now front c.places.rest_from.now c.places.rest_to.now rest_from rest_to e f c.in-Some-next_place.ensures.found c.args.start c.places.counts (c.places.invariant.walk readings before))
    (subst (IsPaired trees (piece into c.args.from.now front e) (piece into c.args.to.now front f) c.places.counts) c.in-FromBroken.is (c.in_ok-bad.ensures.steps readings told))

pub pair_trees-returns-in-ToBroken-clause-steps : goal.pair_trees-returns-in-ToBroken-clause-steps
pair_trees-returns-in-ToBroken-clause-steps g t c = λ readings told.
    let trees = readings.trees in
    let into = steps trees (c.args.left - 1) in
    let front = c.args.front.now in
    let all_from = steps trees c.args.left front c.args.from.now in
    let all_to = steps trees c.args.left front c.args.to.now in
    let e = option_copied c.in-Some-next_place.next.from in
    let f = option_copied c.in-Some-next_place.next.to in
    let rest_from = c.in-Some-next_place.next.rest_from.now in
    let rest_to = c.in-Some-next_place.next.rest_to.now in
    let before = kept_told readings c.in_ok-bad.ensures.same.content told in
    second_breaks trees all_from all_to c.args.start (piece into c.args.from.now front e) (below into c.args.from.now front rest_from) (piece into c.args.to.now front f) (below into c.args.to.now front rest_to) c.places.counts c.in-ToBroken.bad
    (goes_place trees all_from all_to into c.args.from.now c.args.to.now front c.places.rest_from.now c.places.rest_to.now rest_from rest_to e f c.in-Some-next_place.ensures.found c.args.start c.places.counts (c.places.invariant.walk readings before))
    (subst (IsPaired trees (piece into c.args.from.now front e) (piece into c.args.to.now front f) c.places.counts) c.in-ToBroken.is (c.in_ok-bad.ensures.steps readings told))

pub pair_trees-places-preserved : goal.pair_trees-places-preserved
pair_trees-places-preserved g t c =
    let takes = both_is _ c.in_ok-bad.field-0 c.in-BothCounted.next c.in_ok-bad.ensures.takes c.in-BothCounted.is in
    let found = c.in-Some-next_place.ensures.found in
    record {
      walk = λ readings told.
          let trees = readings.trees in
          let into = steps trees (c.args.left - 1) in
          let front = c.args.front.now in
          let all_from = steps trees c.args.left front c.args.from.now in
          let all_to = steps trees c.args.left front c.args.to.now in
          let e = option_copied c.in-Some-next_place.next.from in
          let f = option_copied c.in-Some-next_place.next.to in
          let rest_from = c.in-Some-next_place.next.rest_from.now in
          let rest_to = c.in-Some-next_place.next.rest_to.now in
          let before = kept_told readings c.in_ok-bad.ensures.same.content told in
          both_go trees all_from all_to c.args.start (piece into c.args.from.now front e) (below into c.args.from.now front rest_from) (piece into c.args.to.now front f) (below into c.args.to.now front rest_to) c.places.counts c.in-BothCounted.next
          (goes_place trees all_from all_to into c.args.from.now c.args.to.now front c.places.rest_from.now c.places.rest_to.now rest_from rest_to e f found c.args.start c.places.counts (c.places.invariant.walk readings before))
          (subst (IsPaired trees (piece into c.args.from.now front e) (piece into c.args.to.now front f) c.places.counts) c.in-BothCounted.is (c.in_ok-bad.ensures.steps readings told));
      rest = λ readings told.
          let trees = readings.trees in
          let into = steps trees (c.args.left - 1) in
          let front = c.args.front.now in
          let all_from = steps trees c.args.left front c.args.from.now in
          let all_to = steps trees c.args.left front c.args.to.now in
          let e = option_copied c.in-Some-next_place.next.from in
          let f = option_copied c.in-Some-next_place.next.to in
          let rest_from = c.in-Some-next_place.next.rest_from.now in
          let rest_to = c.in-Some-next_place.next.rest_to.now in
          let before = kept_told readings c.in_ok-bad.ensures.same.content told in
          place_next trees all_from all_to into c.args.from.now c.args.to.now front c.places.rest_from.now c.places.rest_to.now rest_from rest_to e f found (steps_under trees (c.args.left - 1))
          c.args.paths.now c.places.paths c.pair_place.new.paths (g.R.Keeper.reads c.args.keeper.now) (g.R.Keeper.reads c.places.keeper) (g.R.Keeper.reads c.pair_place.new.keeper)
          (c.places.invariant.rest readings before)
          (both_is _ c.in_ok-bad.field-0 c.in-BothCounted.next c.in_ok-bad.ensures.sides c.in-BothCounted.is readings told);
      formed_from = found.formed_from;
      formed_to = found.formed_to;
      same = as_before_then g.R.Keeper c.args.keeper.now c.places.keeper c.pair_place.new.keeper
          c.places.invariant.same c.in_ok-bad.ensures.same;
      quiet = search rules;
      kept_from = takes_next c.args.left (option_copied c.in-Some-next_place.next.from) c.places.rest_from.now c.in-Some-next_place.next.rest_from.now c.places.counts.from c.in-BothCounted.next.from c.requires.levels takes.0 found.from_is c.places.invariant.kept_from;
      kept_to = takes_next c.args.left (option_copied c.in-Some-next_place.next.to) c.places.rest_to.now c.in-Some-next_place.next.rest_to.now c.places.counts.to c.in-BothCounted.next.to c.requires.levels takes.1 found.to_is c.places.invariant.kept_to;
    }
