use Rattle.std.proofs.Common.{◌≡◌, ℕ, ◌<◌, slice_index, slice_set, inl, inr, ◌∙◌, ap, arith}
use Rattle.std.proofs.lemmas.Bool.{cases_eq}
use Rattle.std.proofs.lemmas.List.{length-set, get_or-set_same, get_or-set_other}
use Rattle.lmots.specs.OtsType.{width}
use Rattle.lmots.specs.Digits.{coef, with_checksum}
use Rattle.lmots.specs.OneTime.{digit_of}
use Rattle.lmots.proofs.LesserDigit.{coef-le}
use Rattle.lmots.proofs.Numbers.{few_chains}
use Rattle.lmots.proofs.digits.digits_of.Goals as goal

pub chains-preserved : goal.chains-preserved
chains-preserved c =
    let kind = c.args.kind in
    let digits = c.chains.digits in
    let chain : ℕ = c.chains.chain in
    let digit : ℕ = c.digit.result in
    let inside : chain < 265 = omega (arith, few_chains kind) in
    let whole = c.chains.invariant.whole in
    let is : digit ≡ digit_of kind c.args.digest.now chain =
    c.digit.ensures ∙ ap (λ s. coef s chain (width kind)) c.with_checksum-string.ensures in
    let here : slice_index (slice_set digits chain digit) chain ≡ digit = get_or-set_same digits chain digit 0 (omega (arith, whole)) in
    record {
      whole = length-set digits chain digit ∙ whole;
      digits = λ k lt. elim (cases_eq k chain) [
        | inl same ↦ rw same (here ∙ is)
        | inr other ↦ get_or-set_other digits chain k digit 0 other ∙ c.chains.invariant.digits k (omega (arith, other))
      ];
      low = λ k lt. elim (cases_eq k chain) [
        | inl same ↦ rw same (omega (arith, here, is, coef-le kind (with_checksum kind c.args.digest.now) chain))
        | inr other ↦ omega (arith, get_or-set_other digits chain k digit 0 other, c.chains.invariant.low k (omega (arith, other)))
      ];
    }
