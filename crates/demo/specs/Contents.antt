-- What `demo` comes to where the store tells what it holds: one outcome, faults and want of memory aside.
use Rattle.std.specs.Prelude.{◌≡◌, ◌≢◌, ℕ, List, None, Result, Ok, Err}
use Rattle.git_object.specs.Repository.{Repository, empty_repository}
use Rattle.rsl_chain.specs.Logs.{IsBreakOf}
use Rattle.judging.specs.declared.verdicts.Verdict.{Verdict}
use Rattle.entry_rules.specs.declared.faults.Fault.{Fault}
use Rattle.verify_ref.specs.Verdicts.{IsVerdict}
use Rattle.demo.specs.Histories.{demo_repository, main_name}
use Rattle.demo.specs.declared.running.DemoFault.{DemoFault}
use Rattle.demo.specs.declared.running.DemoFault.TheVariants.{Unfilled, LogBroken, KeeperFailed, SinkFailed, Memory}
use Rattle.demo.specs.declared.filling.FillFault.TheVariants as fill

-- nothing is held, and this is the verdict on the branch of the demonstration
abbrev pub IsShown : ℕ → Repository → Verdict Fault → Type 0
IsShown n was verdict = (was ≡ empty_repository) × IsVerdict (demo_repository n) main_name None verdict

-- nothing is held, and the demonstration's log breaks at this id
abbrev pub IsBroken : ℕ → Repository → List ℕ → Type 0
IsBroken n was id = (was ≡ empty_repository) × IsBreakOf (demo_repository n) id

abbrev pub DemoComes : ℕ → Repository → Result (Verdict Fault) DemoFault → Type 0
DemoComes n was (Ok verdict) = IsShown n was verdict
DemoComes n was (Err (Unfilled fill.KeeperFailed)) = ⊥
DemoComes n was (Err (Unfilled fill.NotEmpty)) = was ≢ empty_repository
DemoComes n was (Err (Unfilled fill.Memory)) = ⊥
DemoComes n was (Err (Unfilled fill.CommitFailed)) = ⊥
DemoComes n was (Err (LogBroken id)) = IsBroken n was id
DemoComes n was (Err KeeperFailed) = ⊥
DemoComes n was (Err SinkFailed) = ⊥
DemoComes n was (Err Memory) = ⊥
