use Rattle.std.proofs.Common.{◌≡◌, drop}
use Rattle.global_rules.specs.Order.{with_new}
use Rattle.global_rules.proofs.walking.meet.Given as goal

abbrev pub invariant-ids : goal.invariant-ids
invariant-ids l = with_new l.met (drop l.id-index l.ids) ≡ with_new l.fn.met l.ids
