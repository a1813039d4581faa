use Rattle.root_metadata.proofs.Sortedness.{all_left, rising_keys}
use Rattle.root_metadata.proofs.sets.id_set.Goals as goal

pub from_rising-requires : goal.from_rising-requires
from_rising-requires c =
    rising_keys c.kept.list c.ids.set.keys (all_left _ _ _ _ c.kept.invariant c.in-None.ensures.steps.0 c.into_iter-id-iterator.ensures.into_iter_gives.0) c.into_iter-id-iterator.ensures.into_iter_gives.4
