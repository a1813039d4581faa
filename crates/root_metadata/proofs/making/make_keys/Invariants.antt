use Rattle.std.proofs.Common.{◌≡◌, map, take}
use Rattle.root_metadata.specs.Made.{key_made}
use Rattle.root_metadata.proofs.making.make_keys.Given as goal

abbrev pub invariant-keys : goal.invariant-keys
invariant-keys l = l.made ≡ map key_made (take l.key-index l.keys)
