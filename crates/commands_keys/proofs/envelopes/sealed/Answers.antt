use Rattle.std.proofs.Common.{subst, sym}
use Rattle.dsse_envelope.specs.Written.{IsWritable}
use Rattle.commands_keys.proofs.Placed.{writable}
use Rattle.commands_keys.proofs.envelopes.sealed.Goals as goal

pub returns-in-Ok-clause-writable : goal.returns-in-Ok-clause-writable
returns-in-Ok-clause-writable c = subst IsWritable (sym c.in-Ok.ensures.sealed) (writable c.args.signature c.args.envelope c.requires.sealable c.requires.id c.requires.place)
