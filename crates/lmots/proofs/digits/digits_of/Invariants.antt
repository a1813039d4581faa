use Rattle.std.proofs.Common.{◌≡◌, ℕ, ◌-◌, ◌^◌, ◌<◌, ◌≤◌, length, slice_index}
use Rattle.lmots.specs.OtsType.{width}
use Rattle.lmots.specs.OneTime.{digit_of}
use Rattle.lmots.proofs.digits.digits_of.Given as goal

abbrev pub invariant-chains : goal.invariant-chains
invariant-chains l = record {
  whole : length l.digits ≡ 265;
  digits : (k : ℕ) → k < l.chain → slice_index l.digits k ≡ digit_of l.kind l.digest k;
  low : (k : ℕ) → k < l.chain → slice_index l.digits k ≤ 2 ^ width l.kind - 1;
}
