use Rattle.std.proofs.Common.{sym, ap, ◌∙◌}
use Rattle.std.specs.FinMap.{insert}
use Rattle.keeper_api.proofs.Undos.{steps_push, with_entries_push}
use Rattle.keeper_api.proofs.tree_edits.insert_all.Goals as goal

pub entries-preserved : goal.entries-preserved
entries-preserved g c = record {
  inserted = c.in-Ok.ensures.ok ∙ ap (λ m. insert m c.in-Some.key c.in-Some.value) c.entries.invariant.inserted ∙ sym (with_entries_push c.entries.yielded c.in-Some.key c.in-Some.value _);
  steps = rw (c.in-Ok.ensures.noted, c.in-Ok.ensures.ok) (steps_push _ _ _ _ _ c.entries.invariant.steps);
}
