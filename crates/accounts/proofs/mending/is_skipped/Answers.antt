use Rattle.entry_rules.specs.RealRules.{real_rules}
use Rattle.accounts.proofs.WaysBack.{skipped_is}
use Rattle.accounts.proofs.mending.is_skipped.Goals as goal

pub returns : goal.returns
returns c = λ log stands some. skipped_is (real_rules c.args.judged.now.engine.rules.anchor) log c.args.number c.skipped.result some (c.skipped.ensures log stands.follows)
