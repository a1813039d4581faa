use Rattle.std.proofs.Common.{take}
use Rattle.keeper_api.specs.RefPlans.{ComesTo}
use Rattle.keeper_api.proofs.ref_plans.plan_of.Given as goal

abbrev pub invariant-loop-change : goal.invariant-loop-change
invariant-loop-change l = ComesTo (take l.change-index l.changes) l.plan
