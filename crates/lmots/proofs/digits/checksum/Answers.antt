use Rattle.std.proofs.Common.{◌≡◌, ℕ, ◌-◌, ◌*◌, ◌/◌, ◌%◌, ◌^◌, ◌∙◌, ap, arith}
use Rattle.std.specs.List.{sum_by}
use Rattle.std.proofs.Math.Nat.{mod-eq_of_lt}
use Rattle.lmots.specs.OtsType.{width}
use Rattle.lmots.specs.Digits.{digits}
use Rattle.lmots.proofs.Sums.{lacked_none, lacked_more, sum_fits, checksum_small}
use Rattle.lmots.proofs.digits.checksum.Goals as goal

pub overflow_add-sum : goal.overflow_add-sum
overflow_add-sum c =
    omega (arith, sum_fits c.args.kind c.args.digest.now c.digits.index c.digits.sum (c.top-top.result - c.digit.result) (omega arith) (omega arith) c.digits.invariant)

pub digits-init : goal.digits-init
digits-init c = lacked_none _ c.args.digest.now (width c.args.kind)

pub digits-preserved : goal.digits-preserved
digits-preserved c =
    let more = lacked_more (2 ^ width c.args.kind - 1) c.args.digest.now (width c.args.kind) c.digits.index in
    cc more

pub returns : goal.returns
returns c =
    let all : c.digits.index ≡ 256 / width c.args.kind = omega arith in
    let whole : c.digits.sum ≡ sum_by (λ (d : ℕ). 2 ^ width c.args.kind - 1 - d) (digits c.args.digest.now (width c.args.kind) (256 / width c.args.kind)) =
    c.digits.invariant ∙ ap (λ (n : ℕ). sum_by (λ (d : ℕ). 2 ^ width c.args.kind - 1 - d) (digits c.args.digest.now (width c.args.kind) n)) all in
    ap (λ (n : ℕ). n * 2 ^ c.shift.result % 65536) whole
    ∙ ap (λ (n : ℕ). sum_by (λ (d : ℕ). 2 ^ width c.args.kind - 1 - d) (digits c.args.digest.now (width c.args.kind) (256 / width c.args.kind)) * 2 ^ n % 65536) c.shift.ensures
    ∙ mod-eq_of_lt (checksum_small c.args.kind c.args.digest.now)
