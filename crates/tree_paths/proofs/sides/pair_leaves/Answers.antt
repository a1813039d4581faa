use Rattle.std.proofs.Common.{sym, ◌∙◌, ◌++◌, ◌∷◌, [], ap, true, false, List, ℕ}
use Rattle.std.proofs.lemmas.List.{append-nil}
use Rattle.tree_paths.proofs.Turns.{both_paths, leaf_changes}
use Rattle.tree_paths.proofs.sides.pair_leaves.Goals as goal

pub returns-then-is_same-clause-changed : goal.returns-then-is_same-clause-changed
returns-then-is_same-clause-changed c = λ into.
    sym (append-nil c.args.paths.now) ∙ ap (λ (ps : List (List ℕ)). c.args.paths.now ++ ps)
    (sym (leaf_changes into c.args.from.now c.args.to.now c.args.front.now c.args.first.now c.args.second.now true c.requires.one c.requires.plain (sym c.if-is_same.ensures)))

pub returns-in_ok-push-in-BothCounted-clause-changed : goal.returns-in_ok-push-in-BothCounted-clause-changed
returns-in_ok-push-in-BothCounted-clause-changed c = λ into.
    c.in_ok-push-in-BothCounted.ensures.added ∙ ap (λ (p : List ℕ). c.args.paths.now ++ p ∷ []) (c.in_ok-place_at-in-BothCounted.ensures)
    ∙ ap (λ (ps : List (List ℕ)). c.args.paths.now ++ ps)
    (sym (leaf_changes into c.args.from.now c.args.to.now c.args.front.now c.args.first.now c.args.second.now false c.requires.one c.requires.plain (sym c.if-is_same.ensures)))

pub returns-in_ok-push-in-BothCounted-clause-counted : goal.returns-in_ok-push-in-BothCounted-clause-counted
returns-in_ok-push-in-BothCounted-clause-counted c =
    both_paths c.args.from.now c.args.to.now c.longer.result c.args.counts c.in-BothCounted.next (sym c.in-BothCounted.is ∙ c.count_both.ensures)
