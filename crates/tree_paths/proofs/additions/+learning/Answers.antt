use Rattle.std.proofs.Common.{rules, ap, ◌≡◌, ◌∙◌, ◌≤◌, ◌==◌, ◌-◌, ℕ, List, Some, arith, length, min, sym}
use Rattle.git_object.specs.declared.trees.TreeEntry.{TreeEntry}
use Rattle.tree_paths.specs.Adding.{Adds}
use Rattle.tree_paths.specs.Listings.{visits}
use Rattle.tree_paths.specs.Readings.{Readings, Told}
use Rattle.tree_paths.specs.Walks.{below, entry_steps, is_dir, no_counts, one_dir, steps}
use Rattle.tree_paths.specs.declared.counts.Counts.{Counts}
use Rattle.tree_paths.proofs.ObjectsRead.{kept_told, some_at}
use Rattle.tree_paths.proofs.Judging.{is_opened, root_cut}
use Rattle.tree_paths.proofs.Visits.{visited_once, visits_entry, visits_open}
use Rattle.tree_paths.proofs.Sums.{adds_done, adds_next, adds_start}
use Rattle.tree_paths.proofs.additions.+learning.Goals as goal

pub learn_tree-entries-init : goal.learn_tree-entries-init
learn_tree-entries-init g t c =
    let level : 1 ≤ c.args.left = some_at (λ (entries : List TreeEntry). 1 ≤ c.args.left) c.in_ok-entries.field-0 c.in-Some-2.entries c.in_ok-entries.ensures.level c.in-Some-2.is in
    let one : c.count_dir-adds.result ≡ one_dir no_counts = c.count_dir-adds.ensures ∙ ap one_dir c.no_counts.ensures in
    record {
      adds = λ readings front told is.
          adds_start readings.trees c.args.left front c.args.id.now (c.args.len == 0) c.in-Some-2.entries c.as_slice-rest.result.now c.count_dir-adds.result level (root_cut c.args.len (length front) is)
          (sym c.in-Some-2.is ∙ c.in_ok-entries.ensures.read readings told) c.as_slice-rest.ensures one;
      known = λ r told. c.requires.known r (c.in_ok-entries.ensures.same.content r told);
      tree = λ readings told. (is_opened c.args.left (c.args.len == 0) (readings.trees c.args.id.now) c.in-Some-2.entries (sym c.in-Some-2.is ∙ c.in_ok-entries.ensures.read readings told)).there ∙ ap Some (sym c.as_slice-rest.ensures);
      visited = λ readings front told.
          let whole = visits_open readings.trees c.args.left front c.args.id.now (c.args.len == 0) c.in-Some-2.entries level (sym c.in-Some-2.is ∙ c.in_ok-entries.ensures.read readings told) in
          let rest = ap (λ (es : List TreeEntry). visits (below (steps readings.trees (c.args.left - 1)) c.args.id.now front es)) c.as_slice-rest.ensures in
          omega (arith, whole, rest, c.in_ok-entries.ensures.reads);
      same = search rules;
      few = λ few. few;
      room = λ room. room;
      stay = λ id there. there;
      quiet = search rules;
    }

pub learn_tree-entries-preserved : goal.learn_tree-entries-preserved
learn_tree-entries-preserved g t c =
    let entry = c.in-Some-split_first.entry.now in
    let adds = some_at (λ (a : Counts). (readings : Readings) (holder front : List ℕ) → Told (g.R.Keeper.content c.learn_entry.new.keeper) readings → c.args.len ≡ min (length front) 8192
    → Adds readings.trees (entry_steps (steps readings.trees (c.args.left - 1)) holder front entry (is_dir entry.mode)) a)
    c.in_ok-next.field-0 c.in-Some-3.next c.in_ok-next.ensures.adds c.in-Some-3.is in
    record {
      adds = λ readings front told is.
          adds_next readings.trees (steps readings.trees c.args.left front c.args.id.now) (steps readings.trees (c.args.left - 1)) c.args.id.now front c.entries.rest.now c.in-Some-split_first.more.now entry
          c.entries.adds c.in-Some-3.next c.in-Some-add_counts.sum (c.entries.invariant.adds readings front (kept_told readings c.in_ok-next.ensures.same.content told) is) c.in-Some-split_first.ensures.cases.0
          (adds readings c.args.id.now front told is) c.in-Some-add_counts.ensures;
      known = c.in_ok-next.ensures.known;
      tree = λ readings told. c.entries.invariant.tree readings (kept_told readings c.in_ok-next.ensures.same.content told);
      visited = λ readings front told.
          let before = c.entries.invariant.visited readings front (kept_told readings c.in_ok-next.ensures.same.content told) in
          let one = c.in_ok-next.ensures.visited readings c.args.id.now front told in
          let parts = visits_entry (steps readings.trees (c.args.left - 1)) c.args.id.now front c.entries.rest.now c.in-Some-split_first.more.now entry c.in-Some-split_first.ensures.cases.0 in
          omega (arith, before, one, parts);
      same = search rules;
      few = λ few. c.in_ok-next.ensures.few (c.entries.invariant.few few);
      room = λ room. c.in_ok-next.ensures.room (c.entries.invariant.room room);
      stay = λ id there. c.in_ok-next.ensures.stay id (c.entries.invariant.stay id there);
      quiet = search rules;
    }

pub learn_tree-returns-clause-known : goal.learn_tree-returns-clause-known
learn_tree-returns-clause-known g t c = λ r told readings are.
    c.keep.ensures.known readings.trees (c.entries.invariant.known r told readings are)
    (λ front is. adds_done readings.trees (steps readings.trees c.args.left front c.args.id.now) (steps readings.trees (c.args.left - 1)) c.args.id.now front c.entries.rest.now c.entries.adds
    (c.entries.invariant.adds readings front (record { repository = r; told = told; are = are }) is) c.in_default-split_first.ensures.cases)
    (c.entries.invariant.tree readings (record { repository = r; told = told; are = are }) ∙ ap Some (c.as_slice-rest.ensures ∙ sym c.new.ensures))

pub learn_tree-returns-in_err-entries-clause-visited : goal.learn_tree-returns-in_err-entries-clause-visited
learn_tree-returns-in_err-entries-clause-visited g t c = λ readings front told. visited_once readings.trees c.args.left front c.args.id.now _ _ c.in_err-entries.ensures.reads

pub learn_tree-returns-in_default-2-clause-visited : goal.learn_tree-returns-in_default-2-clause-visited
learn_tree-returns-in_default-2-clause-visited g t c = λ readings front told. visited_once readings.trees c.args.left front c.args.id.now _ _ c.in_ok-entries.ensures.reads

pub learn_tree-returns-in_err-next-clause-visited : goal.learn_tree-returns-in_err-next-clause-visited
learn_tree-returns-in_err-next-clause-visited g t c = λ readings front told.
    let before = c.entries.invariant.visited readings front (kept_told readings c.in_err-next.ensures.same.content told) in
    let one = c.in_err-next.ensures.visited readings c.args.id.now front told in
    let parts = visits_entry (steps readings.trees (c.args.left - 1)) c.args.id.now front c.entries.rest.now c.in-Some-split_first.more.now c.in-Some-split_first.entry.now c.in-Some-split_first.ensures.cases.0 in
    omega (arith, before, one, parts)

pub learn_tree-returns-in_default-3-clause-visited : goal.learn_tree-returns-in_default-3-clause-visited
learn_tree-returns-in_default-3-clause-visited g t c = λ readings front told.
    let before = c.entries.invariant.visited readings front (kept_told readings c.in_ok-next.ensures.same.content told) in
    let one = c.in_ok-next.ensures.visited readings c.args.id.now front told in
    let parts = visits_entry (steps readings.trees (c.args.left - 1)) c.args.id.now front c.entries.rest.now c.in-Some-split_first.more.now c.in-Some-split_first.entry.now c.in-Some-split_first.ensures.cases.0 in
    omega (arith, before, one, parts)

pub learn_tree-returns-in_default-add_counts-clause-visited : goal.learn_tree-returns-in_default-add_counts-clause-visited
learn_tree-returns-in_default-add_counts-clause-visited g t c = λ readings front told.
    let before = c.entries.invariant.visited readings front (kept_told readings c.in_ok-next.ensures.same.content told) in
    let one = c.in_ok-next.ensures.visited readings c.args.id.now front told in
    let parts = visits_entry (steps readings.trees (c.args.left - 1)) c.args.id.now front c.entries.rest.now c.in-Some-split_first.more.now c.in-Some-split_first.entry.now c.in-Some-split_first.ensures.cases.0 in
    omega (arith, before, one, parts)
