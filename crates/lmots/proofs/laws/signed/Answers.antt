use Rattle.lmots.proofs.Signed.{IsOfType-signature, candidate-signature}
use Rattle.lmots.proofs.laws.signed.Goals as goal

pub returns : goal.returns
returns c = record {
  shape = IsOfType-signature c.args.kind c.args.i.now c.args.q c.args.seed.now c.args.message.now;
  key = candidate-signature c.args.kind c.args.i.now c.args.q c.args.seed.now c.args.message.now;
}
