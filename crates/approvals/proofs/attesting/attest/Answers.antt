use Rattle.std.specs.Option.{option_copied}
use Rattle.approvals.specs.Attesting.{target_in}
use Rattle.approvals.proofs.Sited.{unreadable_each}
use Rattle.approvals.proofs.attesting.attest.Goals as goal

pub returns-in-Err-clause-unreadable : goal.returns-in-Err-clause-unreadable
returns-in-Err-clause-unreadable g c =
    unreadable_each (g.R.Keeper.content c.find_site.new.keeper) (target_in (option_copied c.args.attestations)) c.args.name.now c.args.from.now c.args.tree.now c.args.envelope.now c.args.author.now c.in-Err.fault c.in-Err.ensures.unreadable
