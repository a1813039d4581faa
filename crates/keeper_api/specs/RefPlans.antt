-- A list of reference changes as names that are set and then names that go.
use Rattle.std.specs.Prelude.{◌≡◌, ℕ, List, None, if◌then◌else◌}
use Rattle.std.specs.BTreeSet.{contains}
use Rattle.std.specs.FinMap.{get}
use Rattle.octets.specs.BytesMap.{BytesMap, by_bytes}
use Rattle.keeper_api.specs.Changes.{with_refs}
use Rattle.keeper_api.specs.Trees.{with_entries}
use Rattle.keeper_api.specs.declared.changes.RefChange.{RefChange}
use Rattle.keeper_api.specs.declared.ref_plans.RefPlan.{RefPlan}

-- on every map the plan does what the changes do, made in order
abbrev pub ComesTo : List RefChange → RefPlan → Type 0
ComesTo changes plan =
    (m : BytesMap (List ℕ)) (q : List ℕ)
    → get (with_refs changes m) q ≡
    (if contains by_bytes plan.gone q then None else get (with_entries plan.sets.items m) q)
