use Rattle.rule_delegations.proofs.Linking.{not_there, place_put}
use Rattle.rule_delegations.proofs.links.add_place.Goals as goal

pub returns : goal.returns
returns c = place_put c.args.name.now _ c.args.at c.args.places.now c.insert.new.self c.in_ok-copy.ensures (not_there c.get.result _ c.is_some.result c.is_some.ensures c.if-is_some.false c.get.ensures.value) c.in_ok-_had.ensures.updates.0
