use Rattle.std.proofs.Common.{ℕ, ◌<◌, ◌≤◌, map}
use Rattle.sha256_lanes.specs.Texts.{blocks_of, joined}
use Rattle.sha256_lanes.proofs.eights.most_blocks.Given as goal

abbrev pub invariant-lanes : goal.invariant-lanes
invariant-lanes l = (i : ℕ) → i < l.lane → blocks_of (joined (map (λ text. text.now) l.heads) (map (λ text. text.now) l.bodies) i) ≤ l.most
