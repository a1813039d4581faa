use Rattle.std.proofs.Common.{◌≡◌, take}
use Rattle.root_metadata.specs.Made.{persons_made}
use Rattle.root_metadata.proofs.making.make_listed.Given as goal

abbrev pub invariant-listed : goal.invariant-listed
invariant-listed l = l.made ≡ persons_made l.roster (take l.text-index l.text-items)
