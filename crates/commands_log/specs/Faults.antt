-- The faults that the store and the sink count, and the outcome that a refused log becomes.
use Rattle.std.specs.Prelude.{Bool, true, false}
use Rattle.rsl_chain.specs.declared.log_faults.LogFault.{LogFault}
use Rattle.rsl_chain.specs.declared.log_faults.LogFault.TheVariants as log
use Rattle.commands_log.specs.declared.faults.LogCommandFault.{LogCommandFault}
use Rattle.commands_log.specs.declared.faults.LogCommandFault.TheVariants.{Broken, KeeperFailed, SinkFailed, Memory}

abbrev pub fault_of_log : LogFault → LogCommandFault
fault_of_log (log.Broken id) = Broken id
fault_of_log log.Failed = KeeperFailed
fault_of_log log.Memory = Memory

abbrev pub of_keeper : LogCommandFault → Bool
of_keeper (Broken id) = false
of_keeper KeeperFailed = true
of_keeper SinkFailed = false
of_keeper Memory = false

abbrev pub of_sink : LogCommandFault → Bool
of_sink (Broken id) = false
of_sink KeeperFailed = false
of_sink SinkFailed = true
of_sink Memory = false
