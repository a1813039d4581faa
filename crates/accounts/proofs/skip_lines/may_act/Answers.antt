use Rattle.rule_delegations.specs.Reached.{MayAct}
use Rattle.entry_rules.specs.Meeting.{git_name, may_act}
use Rattle.entry_rules.proofs.Meetings.{listed_true, same_test}
use Rattle.accounts.proofs.skip_lines.may_act.Goals as goal

pub returns : goal.returns
returns c =
    let name = git_name c.args.name.now in
    same_test c.lists.result (may_act c.args.rules.now name c.args.key.now) (MayAct c.args.rules.now name c.args.key.now) c.lists.ensures
    (listed_true c.args.rules.now name c.files-files.ensures.policy c.args.key.now)
