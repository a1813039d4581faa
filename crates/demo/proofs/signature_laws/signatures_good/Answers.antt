use Rattle.demo.proofs.GoodSignatures.{are_good}
use Rattle.demo.proofs.signature_laws.signatures_good.Goals as goal

pub returns : goal.returns
returns c = are_good c.keys_sign_well.ensures
