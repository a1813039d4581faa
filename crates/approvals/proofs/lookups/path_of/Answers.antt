use Rattle.std.proofs.Common.{sym, subst, ◌≤◌, List, ℕ, length}
use Rattle.std.specs.List.{AllByRecursion}
use Rattle.git_object.specs.Names.{components}
use Rattle.git_object.specs.Trees.{IsEntryName}
use Rattle.approvals.proofs.PathParts.{path_named, path_short}
use Rattle.approvals.proofs.lookups.path_of.Goals as goal

pub returns-clause-few : goal.returns-clause-few
returns-clause-few c =
    subst (λ (path : List ℕ). length (components path) ≤ 18) (sym c.in_ok-path.ensures.path)
    (path_short c.args.name.now c.args.from.now c.args.tree.now c.in_ok-path.ensures.named c.in_ok-path.ensures.ids.0 c.in_ok-path.ensures.ids.1)

pub returns-clause-named : goal.returns-clause-named
returns-clause-named c =
    subst (λ (path : List ℕ). AllByRecursion IsEntryName (components path)) (sym c.in_ok-path.ensures.path)
    (path_named c.args.name.now c.args.from.now c.args.tree.now c.in_ok-path.ensures.named c.in_ok-path.ensures.ids.0 c.in_ok-path.ensures.ids.1)
