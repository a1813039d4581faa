use Rattle.std.proofs.Common.{◌≡◌, drop}
use Rattle.global_rules.specs.Thresholds.{first_short}
use Rattle.global_rules.proofs.thresholds.first_short.Given as goal

abbrev pub invariant-paths : goal.invariant-paths
invariant-paths l = first_short l.rules l.signers l.rule l.need l.paths ≡ first_short l.rules l.signers l.rule l.need (drop l.path-index l.paths)
