use Rattle.std.proofs.Common.{sym}
use Rattle.rule_delegations.specs.Reached.{Name}
use Rattle.entry_rules.proofs.Meetings.{first_reached_is, short_first}
use Rattle.would_be.proofs.telling.first_short.Goals as goal

pub returns-clause-first : goal.returns-clause-first
returns-clause-first c =
    let name : Name = record { space = c.args.space; text = c.args.text.now } in
    sym (first_reached_is c.args.rules.now name c.files-files.ensures.policy _ (short_first c.args.rules.now name c.args.signers.now c.short.result c.short.ensures))
