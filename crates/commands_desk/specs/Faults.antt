-- Why an entry is not sent, or not taken, and how the program ends.
use Rattle.std.specs.Prelude.{Bool, true, false, ℕ, List, Result, Ok, Err}
use Rattle.worlds.specs.declared.ending.Ending.{Ending}
use Rattle.worlds.specs.declared.ending.Ending.TheVariants.{Done, Broken, Refused}
use Rattle.worlds.specs.declared.ending.Part.TheVariants as part
use Rattle.worlds.specs.declared.ending.Refusal.TheVariants as refusal
use Rattle.rsl_chain.specs.declared.log_faults.LogFault.{LogFault}
use Rattle.rsl_chain.specs.declared.log_faults.LogFault.TheVariants as log_
use Rattle.pushes.specs.declared.make_faults.MakeFault.{MakeFault}
use Rattle.pushes.specs.declared.make_faults.MakeFault.TheVariants as make
use Rattle.commands_desk.specs.declared.faults.PushFault.{PushFault}
use Rattle.commands_desk.specs.declared.faults.PushFault.TheVariants.{LogBroken, NoEntry, Missing, TooLarge, Desk}
use Rattle.commands_desk.specs.declared.faults.PushFault.TheVariants.{KeeperFailed, PeerFailed, SinkFailed, Memory}

-- why no log was loaded
abbrev pub of_log : LogFault → PushFault
of_log (log_.Broken id) = LogBroken id
of_log log_.Failed = KeeperFailed
of_log log_.Memory = Memory

-- why no push was made
abbrev pub of_making : MakeFault → PushFault
of_making (make.Broken id) = LogBroken id
of_making (make.Missing id) = Missing id
of_making make.TooLarge = TooLarge
of_making make.KeeperFailed = KeeperFailed
of_making make.Memory = Memory

-- how the program ends
abbrev pub push_ending : Result (Unit {0}) PushFault → Ending
push_ending (Ok done) = Done
push_ending (Err (LogBroken id)) = Broken
push_ending (Err NoEntry) = Refused refusal.Input
push_ending (Err (Missing id)) = Refused (refusal.Object id)
push_ending (Err TooLarge) = Refused refusal.TooLarge
push_ending (Err Desk) = Refused refusal.Desk
push_ending (Err KeeperFailed) = Refused (refusal.Fault part.Keeper)
push_ending (Err PeerFailed) = Refused (refusal.Fault part.Peer)
push_ending (Err SinkFailed) = Refused (refusal.Fault part.Sink)
push_ending (Err Memory) = Refused refusal.Memory

-- ---- the faults that each object counts

abbrev pub keeper_failed : PushFault → Bool
keeper_failed (LogBroken id) = false
keeper_failed NoEntry = false
keeper_failed (Missing id) = false
keeper_failed TooLarge = false
keeper_failed Desk = false
keeper_failed KeeperFailed = true
keeper_failed PeerFailed = false
keeper_failed SinkFailed = false
keeper_failed Memory = false

abbrev pub peer_failed : PushFault → Bool
peer_failed (LogBroken id) = false
peer_failed NoEntry = false
peer_failed (Missing id) = false
peer_failed TooLarge = false
peer_failed Desk = false
peer_failed KeeperFailed = false
peer_failed PeerFailed = true
peer_failed SinkFailed = false
peer_failed Memory = false

abbrev pub sink_failed : PushFault → Bool
sink_failed (LogBroken id) = false
sink_failed NoEntry = false
sink_failed (Missing id) = false
sink_failed TooLarge = false
sink_failed Desk = false
sink_failed KeeperFailed = false
sink_failed PeerFailed = false
sink_failed SinkFailed = true
sink_failed Memory = false
