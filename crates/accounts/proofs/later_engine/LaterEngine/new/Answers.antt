use Rattle.entry_rules.specs.RealRules.{real_rules}
use Rattle.judged_logs.specs.LaterRules.{rules_from}
use Rattle.accounts.proofs.later_engine.LaterEngine.new.Goals as goal

pub returns-clause-follows : goal.returns-clause-follows
returns-clause-follows c = c.new-3.ensures (rules_from c.args.first (real_rules c.new.result.anchor))
