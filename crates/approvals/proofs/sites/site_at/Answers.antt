use Rattle.approvals.proofs.Sited.{nothing_refused, tree_refused}
use Rattle.approvals.proofs.sites.site_at.Goals as goal

pub returns-in_ok-found-in-Nothing-clause-in_way : goal.returns-in_ok-found-in-Nothing-clause-in_way
returns-in_ok-found-in-Nothing-clause-in_way g c =
    nothing_refused (g.R.Keeper.content c.root_of.new.keeper) (g.R.Keeper.content c.site_after.new.keeper) c.site_after.ensures.same.content c.args.target.now c.args.path c.in_ok-id.field-0 c.in_ok-id.ensures.root
    c.in-Nothing.is c.in_ok-found-in-Nothing.found c.in_ok-found-in-Nothing.ensures.in_way

pub returns-in_ok-found-in-At-clause-in_way : goal.returns-in_ok-found-in-At-clause-in_way
returns-in_ok-found-in-At-clause-in_way g c =
    tree_refused (g.R.Keeper.content c.root_of.new.keeper) (g.R.Keeper.content c.site_after-in-At.new.keeper) c.site_after-in-At.ensures.same.content c.args.target.now c.args.path c.in_ok-id.field-0 c.in_ok-id.ensures.root
    c.in-At.commit c.in-At.tree c.in-At.is c.in_ok-found-in-At.found c.in_ok-found-in-At.ensures.in_way
