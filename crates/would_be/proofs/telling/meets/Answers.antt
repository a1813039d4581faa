use Rattle.rule_delegations.specs.Reached.{Meets, Name}
use Rattle.entry_rules.specs.Meeting.{meets}
use Rattle.entry_rules.proofs.Meetings.{met_true, same_test}
use Rattle.would_be.proofs.telling.meets.Goals as goal

pub returns : goal.returns
returns c =
    let name : Name = record { space = c.args.space; text = c.args.text.now } in
    same_test c.meets.result (meets c.args.rules.now name c.args.signers.now) (Meets c.args.rules.now name c.args.signers.now) c.meets.ensures
    (met_true c.args.rules.now name c.files-files.ensures.policy c.args.signers.now)
