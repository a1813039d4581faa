use Rattle.lms_keys.proofs.Deciding.{is_test}
use Rattle.lms_keys.proofs.verifying.verify_any.Goals as goal

pub returns-clause-test : goal.returns-clause-test
returns-clause-test c = is_test c.verify_by_length.result c.args.public.now c.args.message.now c.args.signature.now c.verify_by_length.ensures
