-- What the whole command comes to, by the push that was made and what sending it came to.
use Rattle.std.proofs.Common.{◌≡◌, ℕ, true, false, List, Option, inl, inr}
use Rattle.std.specs.Prelude.{Result, Ok, Err}
use Rattle.commands_desk.specs.Preparing.{IsReady}
use Rattle.commands_desk.specs.Pushing.{OfPush, Passed, PushEnds, Sends}
use Rattle.git_object.specs.Repository.{Repository}
use Rattle.commands_desk.specs.declared.faults.PushFault.{PushFault}
use Rattle.commands_desk.specs.declared.faults.PushFault.TheVariants.{LogBroken, NoEntry, Missing, TooLarge, Desk, KeeperFailed, PeerFailed, SinkFailed, Memory}

module _ (port number : ℕ) (held : Option Repository) (p : Passed) (text : List ℕ) (ready : IsReady held number text) where
  pub sent : (outcome : Result (Unit {0}) PushFault) → Sends port text p outcome → PushEnds port number held p outcome
  sent (Ok done) so = record { text = text; ready = ready; so = so }
  sent (Err (LogBroken id)) so = absurd so
  sent (Err NoEntry) so = absurd so
  sent (Err (Missing id)) so = absurd so
  sent (Err TooLarge) so = absurd so
  sent (Err Desk) so = record { text = text; ready = ready; so = so }
  sent (Err KeeperFailed) so = absurd so
  sent (Err PeerFailed) so = record { text = text; ready = ready; so = so }
  sent (Err SinkFailed) so = inl (record { text = text; ready = ready; so = so })
  sent (Err Memory) so = so
