use Rattle.std.proofs.Common.{None, refl}
use Rattle.entry_rules.specs.RealRules.{real_rules}
use Rattle.judged_logs.specs.LaterRules.{rules_from}
use Rattle.accounts.proofs.LaterTaking.{stands_for_none}
use Rattle.accounts.proofs.later_pass.unjudged.Goals as goal

pub returns-clause-none : goal.returns-clause-none
returns-clause-none c =
    stands_for_none (record { engine = c.new.result; epoch = None; attested = None; rows = c.new-2.result; later = c.new-3.result })
    c.new.ensures.follows refl refl c.new-2.ensures (c.new-3.ensures (rules_from c.new.result.first (real_rules c.new.result.rules.anchor)))
