use Rattle.std.proofs.Common.{◌≡◌, ◌≤◌, length, take}
use Rattle.mirror.proofs.comparing.compare.Given as goal

abbrev pub invariant-entries : goal.invariant-entries
invariant-entries l = record {
  alike : take l.at l.kept ≡ take l.at l.offered;
  within : l.at ≤ length l.offered;
}
