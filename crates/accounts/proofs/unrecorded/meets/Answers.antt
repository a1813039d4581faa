use Rattle.rule_delegations.specs.Reached.{Meets, Name}
use Rattle.entry_rules.specs.Meeting.{git_name, meets}
use Rattle.entry_rules.proofs.Meetings.{met_true, same_test}
use Rattle.accounts.proofs.unrecorded.meets.Goals as goal

pub returns : goal.returns
returns c =
    let name : Name = git_name c.args.name.now in
    same_test c.meets.result (meets c.args.rules.now name c.args.signers.now) (Meets c.args.rules.now name c.args.signers.now) c.meets.ensures
    (met_true c.args.rules.now name c.files-files.ensures.policy c.args.signers.now)
