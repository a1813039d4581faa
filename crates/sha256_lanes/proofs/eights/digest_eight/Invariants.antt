use Rattle.std.proofs.Common.{◌≡◌, ℕ, ◌<◌, ◌≤◌, [], map, slice_index_or}
use Rattle.sha2.specs.Sha256.{hash_after, initial_hash_256, padded_message, sha256}
use Rattle.sha256_lanes.specs.Lanes.{AreLong, lane}
use Rattle.sha256_lanes.specs.Texts.{blocks_of, joined}
use Rattle.sha256_lanes.proofs.eights.digest_eight.Given as goal

abbrev pub invariant-steps : goal.invariant-steps
invariant-steps l = record {
  long : AreLong 8 l.state;
  going : (i : ℕ) → i < 8 → l.k ≤ blocks_of (joined (map (λ text. text.now) l.heads) (map (λ text. text.now) l.bodies) i)
      → lane l.state i ≡ hash_after initial_hash_256 (padded_message (joined (map (λ text. text.now) l.heads) (map (λ text. text.now) l.bodies) i)) l.k;
  done : (i : ℕ) → i < 8 → blocks_of (joined (map (λ text. text.now) l.heads) (map (λ text. text.now) l.bodies) i) ≤ l.k
      → slice_index_or l.digests i [] ≡ sha256 (joined (map (λ text. text.now) l.heads) (map (λ text. text.now) l.bodies) i);
}
