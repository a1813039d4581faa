use Rattle.approvals.proofs.Sited.{refused_each}
use Rattle.approvals.proofs.sites.site_after.Goals as goal

pub returns-in-Some-2-clause-in_way : goal.returns-in-Some-2-clause-in_way
returns-in-Some-2-clause-in_way g c =
    refused_each (g.R.Keeper.content c.survey.new.keeper) c.args.path c.as_slice.result.now c.as_slice-3.result.now c.args.old c.in_ok-id.field-0 c.in_ok-id-2.field-0 c.new-levels.result c.survey.new.levels c.as_slice-2.result.now c.in-Some-2.id
    c.new-levels.ensures c.as_slice.ensures c.as_slice-3.ensures c.as_slice-2.ensures c.in_default.is c.in_ok-id.ensures.found c.in-Some-2.is c.in_ok-id-2.ensures.in_way
