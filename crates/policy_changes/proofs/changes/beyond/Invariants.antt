use Rattle.std.proofs.Common.{◌≡◌, take}
use Rattle.policy_changes.specs.Changes.{beyond}
use Rattle.policy_changes.proofs.changes.beyond.Given as goal

abbrev pub invariant-texts : goal.invariant-texts
invariant-texts l = l.found ≡ beyond l.there (take l.text-index l.texts)
