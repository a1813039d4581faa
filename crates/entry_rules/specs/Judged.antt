-- The faults of a store as those of judging.
use Rattle.std.specs.Prelude.{Result, Ok, Err}
use Rattle.judging.specs.declared.judges.JudgeFault.{JudgeFault}
use Rattle.judging.specs.declared.judges.JudgeFault.TheVariants as judge
use Rattle.keeper_api.specs.declared.keeper_faults.KeeperFault.{KeeperFault}
use Rattle.keeper_api.specs.declared.keeper_faults.KeeperFault.TheVariants as keeper

abbrev pub judge_fault : KeeperFault → JudgeFault
judge_fault keeper.Failed = judge.Failed
judge_fault keeper.Memory = judge.Memory

abbrev pub judge_result : {T : Type 0} → Result T KeeperFault → Result T JudgeFault
judge_result (Ok x) = Ok x
judge_result (Err fault) = Err (judge_fault fault)
