use Rattle.std.proofs.Common.{◌-◌, drop, sym, subst, ◌∙◌, arith}
use Rattle.lms_keys.specs.SigOk.{AreSignedKeys}
use Rattle.lms_keys.proofs.Levels.{by_numbers}
use Rattle.lms_keys.proofs.verifying.verify_hss.Goals as goal

pub returns : goal.returns
returns c =
    let public = c.args.public.now in
    let message = c.args.message.now in
    let s = c.args.signature.now in
    let levels = c.number_at-levels.result in
    let numbers = by_numbers public message s levels (omega (arith, c.if-public-ne60.false)) (omega (arith, c.if-signature-lt4.false))
    (λ k. (c.type_inv.public k).fits) (λ k. (c.type_inv.signature k).fits) c.number_at-levels.ensures in
    let first = c.split_at.ensures.back in
    let rest = c.split_at-2.ensures.back in (
      (λ yes. numbers.1 (
        omega (arith, c.if-levels-eq0.false),
        (
          omega (arith, c.if-levels-gt-MOST_LEVELS.false),
          (
            sym c.number_at.ensures ∙ omega (arith, c.if-number_at-levels.false),
            subst (λ p. AreSignedKeys (levels - 1) p message (drop 4 s)) first (subst (λ l. AreSignedKeys (levels - 1) c.split_at.result.1.now message l) rest (c.verify_signed.ensures.0 yes)),
          ),
        ),
      )),
      λ ok. c.verify_signed.ensures.1 (subst (λ p. AreSignedKeys (levels - 1) p message c.split_at-2.result.1.now) (sym first)
          (subst (λ l. AreSignedKeys (levels - 1) (drop 4 public) message l) (sym rest) (numbers.0 ok).1.1.1)),
    )
