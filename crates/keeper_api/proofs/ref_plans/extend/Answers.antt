use Rattle.std.proofs.Common.{None, false, true, cond, ◌++◌, ◌∷◌, [], sym, ap, ◌∙◌}
use Rattle.std.specs.BTreeSet.{contains}
use Rattle.std.specs.FinMap.{get}
use Rattle.std.specs.Ordering.{eq_by_cmp}
use Rattle.octets.specs.BytesMap.{by_bytes}
use Rattle.keeper_api.specs.Trees.{with_entries}
use Rattle.keeper_api.proofs.Planning.{plan_gone, plan_set}
use Rattle.keeper_api.proofs.ref_plans.extend.Goals as goal

pub returns-in_ok-push-in-Some : goal.returns-in_ok-push-in-Some
returns-in_ok-push-in-Some c = λ changes is m q.
    let plan = c.args.plan.now in
    plan_set changes c.args.change.now c.in-Some.id plan.sets.items (contains by_bytes plan.gone) (contains by_bytes c.remove.new.self) c.in-Some.is
    (λ p. c.remove.ensures.updates.0 p ∙ ap (λ name. cond (eq_by_cmp by_bytes name p) false (contains by_bytes plan.gone p)) c.in_ok-name.ensures)
    is m q
    ∙ ap (λ sets. cond (contains by_bytes c.remove.new.self q) None (get (with_entries sets m) q))
    (sym (c.in_ok-push-in-Some.ensures.items ∙ (λ i. plan.sets.items ++ (c.in_ok-name.ensures i, c.in-Some.id) ∷ [])))

pub returns-in_ok-insert-in-None : goal.returns-in_ok-insert-in-None
returns-in_ok-insert-in-None c = λ changes is.
    let plan = c.args.plan.now in
    plan_gone changes c.args.change.now plan.sets.items (contains by_bytes plan.gone) (contains by_bytes c.insert.new.self) c.in-None.is
    (λ p. c.in_ok-insert-in-None.ensures.updates.0 p ∙ ap (λ name. cond (eq_by_cmp by_bytes name p) true (contains by_bytes plan.gone p)) c.in_ok-name.ensures)
    is
