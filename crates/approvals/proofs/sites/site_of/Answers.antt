use Rattle.approvals.proofs.Sited.{site_given, site_refused}
use Rattle.approvals.proofs.sites.site_of.Goals as goal

pub returns-clause-site : goal.returns-clause-site
returns-clause-site g c =
    site_given (g.R.Keeper.content c.site_at.new.keeper) c.in_ok-path.path c.args.target.now c.args.name.now c.args.from.now c.args.tree.now c.in_ok-path.ensures.path c.in_ok-found.found c.in_ok-found.ensures.made

pub returns-clause-in_way : goal.returns-clause-in_way
returns-clause-in_way g c =
    site_refused (g.R.Keeper.content c.site_at.new.keeper) c.in_ok-path.path c.args.target.now c.args.name.now c.args.from.now c.args.tree.now c.in_ok-path.ensures.path c.in_ok-found.found c.in_ok-found.ensures.in_way
