use Rattle.std.proofs.Common.{sym, ◌∙◌}
use Rattle.rule_delegations.proofs.Spreading.{link_within}
use Rattle.rule_delegations.proofs.marking.mark_below.Goals as goal

pub mark-requires : goal.mark-requires
mark-requires c = rw c.requires (link_within c.args.forest.now c.args.place c.in-Some.file (sym c.below.ensures ∙ c.in-Some.is))
