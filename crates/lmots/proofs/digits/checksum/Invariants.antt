use Rattle.std.proofs.Common.{◌≡◌, ℕ, ◌-◌, ◌^◌}
use Rattle.std.specs.List.{sum_by}
use Rattle.lmots.specs.OtsType.{width}
use Rattle.lmots.specs.Digits.{digits}
use Rattle.lmots.proofs.digits.checksum.Given as goal

abbrev pub invariant-digits : goal.invariant-digits
invariant-digits l = l.sum ≡ sum_by (λ (d : ℕ). 2 ^ width l.kind - 1 - d) (digits l.digest (width l.kind) l.index)
