use Rattle.std.proofs.Common.{◌+◌, Some}
use Rattle.std.specs.BTreeMap as tree
use Rattle.octets.specs.BytesMap.{by_bytes}
use Rattle.judging.proofs.Places.{taken_back}
use Rattle.judging.proofs.book.remember.Goals as goal

pub returns-in-Err-clause-same_places : goal.returns-in-Err-clause-same_places
returns-in-Err-clause-same_places c = λ q.
    taken_back c.args.id.now q (tree.get by_bytes c.args.places.now) (tree.get by_bytes c.add_place.new.places) (tree.get by_bytes c.remove-had.new.self) (Some (c.len.result + 1)) c.requires (c.in_ok-add_place.ensures.put q) (c.remove-had.ensures.updates.0 q)
