use Rattle.entry_rules.specs.RealRules.{real_rules}
use Rattle.verify_ref.proofs.engine.Engine.new.Goals as goal

pub returns-clause-follows : goal.returns-clause-follows
returns-clause-follows c = c.new-3.ensures (real_rules c.new.result.anchor)
