-- The counts of faults after `push` are those of its ending.
use Rattle.std.proofs.Common.{ℕ}
use Rattle.std.specs.Prelude.{Result, Ok, Err}
use Rattle.std.proofs.Math.Nat.{le_refl}
use Rattle.octets.specs.Causes.{HasCause}
use Rattle.worlds.specs.Counts.{Faults, IsCounted, NoneFalls}
use Rattle.commands_desk.specs.Faults.{keeper_failed, peer_failed, push_ending, sink_failed}
use Rattle.commands_desk.specs.declared.faults.PushFault.{PushFault}
use Rattle.commands_desk.specs.declared.faults.PushFault.TheVariants.{LogBroken, NoEntry, Missing, TooLarge, Desk, KeeperFailed, PeerFailed, SinkFailed, Memory}

module _ (f : Faults) (s k p : ℕ) where
  falls : (outcome : Result (Unit {0}) PushFault) → HasCause sink_failed f.sink s outcome → HasCause keeper_failed f.keeper k outcome → HasCause peer_failed f.peer p outcome → NoneFalls f (record f { sink = s; keeper = k; peer = p })
  falls outcome sink keeper peer = record { source = le_refl f.source; sink = sink.later; keeper = keeper.later; disk = le_refl f.disk; entropy = le_refl f.entropy; clock = le_refl f.clock; peer = peer.later }

  pub counted : (outcome : Result (Unit {0}) PushFault) → HasCause sink_failed f.sink s outcome → HasCause keeper_failed f.keeper k outcome → HasCause peer_failed f.peer p outcome → IsCounted (push_ending outcome) f (record f { sink = s; keeper = k; peer = p })
  counted (Ok done) sink keeper peer = record { is = λ i. record f { sink = sink.is i; keeper = keeper.is i; peer = peer.is i }; later = falls (Ok done) sink keeper peer }
  counted (Err (LogBroken id)) sink keeper peer = record { is = λ i. record f { sink = sink.is i; keeper = keeper.is i; peer = peer.is i }; later = falls (Err (LogBroken id)) sink keeper peer }
  counted (Err NoEntry) sink keeper peer = record { is = λ i. record f { sink = sink.is i; keeper = keeper.is i; peer = peer.is i }; later = falls (Err NoEntry) sink keeper peer }
  counted (Err (Missing id)) sink keeper peer = record { is = λ i. record f { sink = sink.is i; keeper = keeper.is i; peer = peer.is i }; later = falls (Err (Missing id)) sink keeper peer }
  counted (Err TooLarge) sink keeper peer = record { is = λ i. record f { sink = sink.is i; keeper = keeper.is i; peer = peer.is i }; later = falls (Err TooLarge) sink keeper peer }
  counted (Err Desk) sink keeper peer = record { is = λ i. record f { sink = sink.is i; keeper = keeper.is i; peer = peer.is i }; later = falls (Err Desk) sink keeper peer }
  counted (Err KeeperFailed) sink keeper peer = record { is = λ i. record f { sink = sink.is i; keeper = keeper.is i; peer = peer.is i }; later = falls (Err KeeperFailed) sink keeper peer }
  counted (Err PeerFailed) sink keeper peer = record { is = λ i. record f { sink = sink.is i; keeper = keeper.is i; peer = peer.is i }; later = falls (Err PeerFailed) sink keeper peer }
  counted (Err SinkFailed) sink keeper peer = record { is = λ i. record f { sink = sink.is i; keeper = keeper.is i; peer = peer.is i }; later = falls (Err SinkFailed) sink keeper peer }
  counted (Err Memory) sink keeper peer = record { is = λ i. record f { sink = sink.is i; keeper = keeper.is i; peer = peer.is i }; later = falls (Err Memory) sink keeper peer }
