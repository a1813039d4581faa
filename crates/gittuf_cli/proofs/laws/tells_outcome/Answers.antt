use Rattle.gittuf_cli.proofs.ToldOutcome.{told_outcome}
use Rattle.gittuf_cli.proofs.laws.tells_outcome.Goals as goal

pub returns : goal.returns
returns g c =
    told_outcome _ c.verify_over_world.ensures c.global_over_world.ensures c.stream_over_world.ensures c.keys_over_world.ensures c.log_over_world.ensures
    c.snapshot_over_world.ensures c.policy_over_world.ensures c.approve_over_world.ensures c.mirror_over_world.ensures c.serve_over_world.ensures c.push_over_world.ensures c.demo_over_world.ensures
