use Rattle.std.proofs.Common.{◌≡◌, ◌+◌, ◌∷◌, [], Some, length}
use Rattle.git_object.specs.Repository.{Repository}
use Rattle.keeper_api.specs.Undisturbed.{Undisturbed}
use Rattle.pushes.proofs.Visiting.{ComesTo, Grows, room}
use Rattle.pushes.proofs.walking.walk.Given as goal

abbrev pub invariant-ids : goal.invariant-ids
invariant-ids g l = record {
  at : (r : Repository) → g.R.Keeper.content l.keeper ≡ Some r → ComesTo r (record { seen = l.fn.seen; ahead = l.from ∷ [] }) l.seen l.ahead.items;
  grows : Grows l.fn.seen l.seen;
  same : Undisturbed g.R.Keeper l.fn.keeper l.keeper;
  quiet : g.R.Keeper.faults l.keeper ≡ g.R.Keeper.faults l.fn.keeper;
}

abbrev pub decreases-ids : goal.decreases-ids
decreases-ids g l = room l.seen + length l.ahead.items
