use Rattle.std.proofs.Common.{◌≡◌, map, take}
use Rattle.root_metadata.proofs.known.copy_ids.Given as goal

abbrev pub invariant-keys : goal.invariant-keys
invariant-keys l = l.ids ≡ map (λ k. k.id) (take l.key-index l.keys)
