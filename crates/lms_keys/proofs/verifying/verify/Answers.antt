use Rattle.std.proofs.Common.{arith}
use Rattle.lms_keys.proofs.OnBytes.{by_one_key}
use Rattle.lms_keys.proofs.verifying.verify.Goals as goal

pub returns : goal.returns
returns c =
    let key = by_one_key c.args.public.now c.args.message.now c.args.signature.now (omega arith) (omega arith) in
    ((λ yes. key.1 (c.is_signature.ensures.0 yes)), λ ok. c.is_signature.ensures.1 (key.0 ok))
