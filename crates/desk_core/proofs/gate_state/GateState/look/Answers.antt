use Rattle.std.proofs.Common.{refl}
use Rattle.pushes.specs.Steps.{has_row}
use Rattle.desk_core.proofs.GateStepping.{fits_on}
use Rattle.desk_core.proofs.Judging.{follows_of, judges_still}
use Rattle.desk_core.proofs.gate_state.GateState.look.Goals as goal

pub returns-in-Ok-None-clause-allowed : goal.returns-in-Ok-None-clause-allowed
returns-in-Ok-None-clause-allowed g c = λ r log told is.
    let was = c.args.self.now in
    rw c.in-Ok-None.field-0-is at (c.in-Ok-None.ensures.none r log was.log.log told is.anchor is.rows (follows_of r log was c.requires.clear c.requires.none is))

pub returns-in-Ok-None-clause-grown : goal.returns-in-Ok-None-clause-grown
returns-in-Ok-None-clause-grown g c = λ r told. c.in-Ok-None.ensures.grown r (has_row c.args.self.now.log.log) told

pub returns-in-Ok-None-clause-judges : goal.returns-in-Ok-None-clause-judges
returns-in-Ok-None-clause-judges g c = λ r log told is. judges_still r log c.args.self.now c.requires.clear c.violation_of.new.engine c.violation_of.ensures.rules c.violation_of.ensures.follows is

pub returns-in-Ok-Some-clause-refused : goal.returns-in-Ok-Some-clause-refused
returns-in-Ok-Some-clause-refused g c = (fits_on g.R.Keeper c.args.keeper.now c.violation_of.new.keeper c.args.self.now.log.log c.args.push.now c.violation_of.ensures.same c.requires.fits, refl)

pub returns-in-Ok-Some-clause-why : goal.returns-in-Ok-Some-clause-why
returns-in-Ok-Some-clause-why g c = λ r log told is.
    let was = c.args.self.now in
    rw c.in-Ok-Some.field-0-is at (c.in-Ok-Some.ensures.found r log was.log.log told is.anchor is.rows (follows_of r log was c.requires.clear c.requires.none is))

pub returns-in-Ok-Some-clause-judges : goal.returns-in-Ok-Some-clause-judges
returns-in-Ok-Some-clause-judges g c = λ r log told is. judges_still r log c.args.self.now c.requires.clear c.violation_of.new.engine c.violation_of.ensures.rules c.violation_of.ensures.follows is

pub returns-in-Err-Failed-clause-judges : goal.returns-in-Err-Failed-clause-judges
returns-in-Err-Failed-clause-judges g c = λ r log told is. judges_still r log c.args.self.now c.requires.clear c.violation_of.new.engine c.violation_of.ensures.rules c.violation_of.ensures.follows is

pub returns-in-Err-Memory-clause-judges : goal.returns-in-Err-Memory-clause-judges
returns-in-Err-Memory-clause-judges g c = λ r log told is. judges_still r log c.args.self.now c.requires.clear c.violation_of.new.engine c.violation_of.ensures.rules c.violation_of.ensures.follows is
