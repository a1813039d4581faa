use Rattle.entry_rules.specs.RealRules.{real_rules}
use Rattle.verify_ref.proofs.judged_log.judge_entries.Goals as goal

pub take_all-requires : goal.take_all-requires
take_all-requires g c = c.new-engine.ensures (real_rules c.args.rules.now.anchor)
