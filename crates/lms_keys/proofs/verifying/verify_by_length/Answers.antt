use Rattle.lms_keys.proofs.OnBytes.{by_lms}
use Rattle.lms_keys.proofs.verifying.verify_by_length.Goals as goal

pub returns-then-public-eq56 : goal.returns-then-public-eq56
returns-then-public-eq56 c =
    let ok = by_lms c.args.public.now c.args.message.now c.args.signature.now c.if-public-eq56.true in
    ((λ yes. ok.1 (c.verify_lms.ensures.0 yes)), λ good. c.verify_lms.ensures.1 (ok.0 good))
