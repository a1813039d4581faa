use Rattle.commands_keys.proofs.Lengths.{fits_by, fits_not}
use Rattle.commands_keys.proofs.envelopes.fits_with.Goals as goal

pub returns-clause-fits : goal.returns-clause-fits
returns-clause-fits c = fits_by c.args.keyid.now c.args.len c.args.envelope.now c.in_ok-long.long c.in_ok-long.ensures

pub returns-clause-not : goal.returns-clause-not
returns-clause-not c = fits_not c.args.keyid.now c.args.len c.args.envelope.now c.in_ok-long.long c.in_ok-long.ensures
