use Rattle.std.proofs.Common.{◌≡◌, take}
use Rattle.std.specs.List.{filter}
use Rattle.would_be.specs.Would.{is_key_of}
use Rattle.would_be.proofs.signing.known_ids.Given as goal

abbrev pub invariant-ids : goal.invariant-ids
invariant-ids l = l.known ≡ filter (is_key_of l.keys) (take l.id-index l.ids)
