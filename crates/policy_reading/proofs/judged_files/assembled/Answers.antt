use Rattle.policy_reading.proofs.Assembled.{assembled_fault, assembled_files}
use Rattle.policy_reading.proofs.judged_files.assembled.Goals as goal

pub returns-in-Ok : goal.returns-in-Ok
returns-in-Ok c = assembled_files c.args.files c.in-Ok.rules c.in-Ok.ensures.ok c.in-Ok.ensures.sound

pub returns-in_ok-fault-in-Err : goal.returns-in_ok-fault-in-Err
returns-in_ok-fault-in-Err c = assembled_fault c.args.files c.in-Err.why c.in_ok-fault-in-Err.fault c.in_ok-fault-in-Err.ensures.fault c.in_ok-fault-in-Err.ensures.other c.in-Err.ensures.refused
