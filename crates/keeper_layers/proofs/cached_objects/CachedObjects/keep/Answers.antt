use Rattle.std.proofs.Common.{subst}
use Rattle.git_object.specs.Objects.{Pair}
use Rattle.keeper_layers.specs.Caching.{GainsOnly}
use Rattle.keeper_layers.proofs.cached_objects.CachedObjects.keep.Goals as goal

pub returns-in-Ok-clause-gains : goal.returns-in-Ok-clause-gains
returns-in-Ok-clause-gains c = subst (λ (p : Pair). GainsOnly c.args.self.now c.put.new.self c.args.id.now p) c.in-Ok.ensures c.put.ensures.gains
