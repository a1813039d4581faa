use Rattle.std.proofs.Common.{◌≡◌, ℕ, suc, ◌-◌, take, drop, sym, ap, subst, ◌∙◌, arith}
use Rattle.lms_keys.specs.Signature.{IsSignature}
use Rattle.lms_keys.specs.SigOk.{AreSignedKeys}
use Rattle.std.proofs.lemmas.Bool.{false≢true}
use Rattle.lms_keys.proofs.Levels.{is_key, none_signed, one_more}
use Rattle.lms_keys.proofs.verifying.+verify_signed.Goals as goal

pub returns-then-count-eq0 : goal.returns-then-count-eq0
returns-then-count-eq0 t c =
    let p = c.args.public.now in
    let m = c.args.message.now in
    let s = c.args.signature.now in
    let none = none_signed p m s in
    let zero = c.if-count-eq0.true in (
      (λ yes. subst (λ n. AreSignedKeys n p m s) (sym zero) (none.1 (c.verify_lms.ensures.0 yes))),
      λ signed. c.verify_lms.ensures.1 (none.0 (subst (λ n. AreSignedKeys n p m s) zero signed)),
    )

pub returns-in_default : goal.returns-in_default
returns-in_default t c = (
  (λ yes. absurd (false≢true yes)),
  λ signed. absurd (is_key c.args.count c.args.public.now c.args.message.now c.args.signature.now c.read.result c.in_default.field-0
      c.in_default.is c.read.ensures.length c.read.ensures.code signed),
)

pub returns-then-signature-len : goal.returns-then-signature-len
returns-then-signature-len t c =
    let s = c.args.signature.now in
    let count : c.args.count ≡ suc (c.args.count - 1) = omega (arith, c.if-count-eq0.false) in
    let more = one_more (c.args.count - 1) c.in-Ok.key c.args.public.now c.args.message.now s c.signature_len-len.result (omega arith) (omega arith) c.in-Ok.ensures.key c.signature_len-len.ensures in (
      (λ yes. absurd (false≢true yes)),
      λ signed. absurd (omega (arith, c.if-signature-len.true, (more.0 (subst (λ n. AreSignedKeys n c.args.public.now c.args.message.now s) count signed)).0)),
    )

pub returns-then-not-is_signature : goal.returns-then-not-is_signature
returns-then-not-is_signature t c =
    let s = c.args.signature.now in
    let len = c.signature_len-len.result in
    let count : c.args.count ≡ suc (c.args.count - 1) = omega (arith, c.if-count-eq0.false) in
    let more = one_more (c.args.count - 1) c.in-Ok.key c.args.public.now c.args.message.now s len (omega arith) (omega arith) c.in-Ok.ensures.key c.signature_len-len.ensures in
    let link = c.split_at.ensures.front in
    let next = c.split_at-2.ensures.front ∙ ap (take 56) c.split_at.ensures.back in (
      (λ yes. absurd (false≢true yes)),
      λ signed.
          let good = (more.0 (subst (λ n. AreSignedKeys n c.args.public.now c.args.message.now s) count signed)).1.0 in
          sym c.if-not-is_signature.true
          ∙ c.is_signature.ensures.1 (subst (λ m. IsSignature c.in-Ok.key m c.split_at.result.0.now) (sym next) (subst (λ l. IsSignature c.in-Ok.key (take 56 (drop len s)) l) (sym link) good)),
    )

pub returns : goal.returns
returns t c =
    let public = c.args.public.now in
    let message = c.args.message.now in
    let s = c.args.signature.now in
    let len = c.signature_len-len.result in
    let n : ℕ = c.args.count - 1 in
    let count : c.args.count ≡ suc n = omega (arith, c.if-count-eq0.false) in
    let more = one_more n c.in-Ok.key public message s len (omega arith) (omega arith) c.in-Ok.ensures.key c.signature_len-len.ensures in
    let link = c.split_at.ensures.front in
    let next = c.split_at-2.ensures.front ∙ ap (take 56) c.split_at.ensures.back in
    let below = c.split_at-2.ensures.back ∙ ap (drop 56) c.split_at.ensures.back in
    let good = c.is_signature.ensures.0 c.if-not-is_signature.false in (
      (λ yes. subst (λ k. AreSignedKeys k public message s) (sym count) (more.1 (
        omega (arith, c.if-signature-len.false),
        (
          subst (λ m. IsSignature c.in-Ok.key m (take len s)) next (subst (λ l. IsSignature c.in-Ok.key c.split_at-2.result.0.now l) link good),
          subst (λ p. AreSignedKeys n p message (drop 56 (drop len s))) next (subst (λ l. AreSignedKeys n c.split_at-2.result.0.now message l) below (c.verify_signed.ensures.0 yes)),
        ),
      ))),
      λ signed.
          let rest = (more.0 (subst (λ k. AreSignedKeys k public message s) count signed)).1.1 in
          c.verify_signed.ensures.1 (subst (λ p. AreSignedKeys n p message c.split_at-2.result.1.now) (sym next) (subst (λ l. AreSignedKeys n (take 56 (drop len s)) message l) (sym below) rest)),
    )
