use Rattle.std.proofs.Common.{refl}
use Rattle.keeper_layers.specs.declared.cached_objects.CachedObjects.{CachedObjects}
use Rattle.keeper_layers.proofs.Gaining.{cache_gains, put_gains}
use Rattle.keeper_layers.proofs.cached_objects.CachedObjects.put.Goals as goal

pub returns-clause-gains : goal.returns-clause-gains
returns-clause-gains c =
    let room = c.make_room.new.self in
    let after : CachedObjects = record { recent = c.put_object-kept.new.objects; earlier = room.earlier; weight = room.weight } in
    cache_gains c.args.self.now after c.args.id.now c.args.object room c.make_room.ensures.same refl
    (put_gains room.recent after.recent c.args.id.now c.args.object c.put_object-kept.result c.put_object-kept.ensures.put c.put_object-kept.ensures.same)
