use Rattle.keeper_layers.proofs.Weighing.{weight_put}
use Rattle.keeper_layers.proofs.cached_objects.put_object.Goals as goal

pub returns-clause-weight : goal.returns-clause-weight
returns-clause-weight c = weight_put c.args.objects.now c.insert.new.self c.args.id.now c.args.object c.in_ok-_had.ensures.entries
