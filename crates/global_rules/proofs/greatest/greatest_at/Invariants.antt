use Rattle.std.proofs.Common.{◌≡◌, drop, max}
use Rattle.global_rules.specs.Greatest.{greatest_at}
use Rattle.global_rules.proofs.greatest.greatest_at.Given as goal

abbrev pub invariant-places : goal.invariant-places
invariant-places l = max l.most (greatest_at l.rules l.signers (drop l.place-index l.places)) ≡ greatest_at l.rules l.signers l.places
