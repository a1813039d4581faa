use Rattle.gittuf_cli.proofs.SameOutcome.{same_outcome}
use Rattle.gittuf_cli.proofs.laws.one_outcome.Goals as goal

pub returns : goal.returns
returns c =
    same_outcome c.one_of_verify.ensures c.one_of_global.ensures c.one_of_stream.ensures c.one_of_keys.ensures c.one_of_history.ensures c.one_of_log.ensures
    c.one_of_trees.ensures c.one_of_policy.ensures c.one_of_approvals.ensures c.one_of_mirror.ensures c.one_of_serve.ensures c.one_of_push.ensures c.one_of_demo.ensures c.one_command.ensures
