use Rattle.std.proofs.Common.{List, Option, subst, [], ◌≡◌, arith}
use Rattle.keeper_api.specs.Trees.{tree_map}
use Rattle.keeper_api.specs.Undoing.{Inserts}
use Rattle.keeper_api.proofs.Removing.{nothing_left}
use Rattle.keeper_api.proofs.Undos.{steps_back}
use Rattle.keeper_api.proofs.tree_edits.restore.Goals as goal

pub steps-preserved : goal.steps-preserved
steps-preserved g c = λ first h.
    steps_back g.met.K.Ord.total c.requires first c.steps.map c.put_back.new.map c.pop.new.self.items (c.in-Some.key, c.in-Some.had)
    (subst (λ (steps : List (g.row.K.Denot × Option g.row.V.Denot)). Inserts first steps (tree_map g.K.Ord.cmp c.steps.map)) c.in-Some.ensures.items (c.steps.invariant first h))
    c.put_back.ensures

pub returns : goal.returns
returns g c = λ first h.
    let none : c.steps.undo.items ≡ [] = nothing_left c.steps.undo.items (λ l. c.in_default.ensures.variant.1 (omega (arith, c.steps.undo.ok))) in
    subst (λ (steps : List (g.row.K.Denot × Option g.row.V.Denot)). Inserts first steps (tree_map g.K.Ord.cmp c.steps.map)) none (c.steps.invariant first h)
