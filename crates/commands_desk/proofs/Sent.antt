-- What sending a push comes to, by what the desk answered and what was printed.
use Rattle.std.proofs.Common.{◌≡◌, ◌≤◌, ℕ, Bool, true, false, List, Option, inl, inr, refl, sym, ap, subst, ◌∙◌}
use Rattle.std.specs.Prelude.{IfSome, Result, Ok, Err}
use Rattle.octets.specs.Causes.{HasCause}
use Rattle.octets.specs.Content.{GainsPart, with_end}
use Rattle.desk_messages.specs.ClientAsking.{HasAsked}
use Rattle.desk_messages.specs.declared.asking.Answer.{Answer}
use Rattle.desk_messages.specs.declared.asking.Answer.TheVariants.{Reply, Bad}
use Rattle.commands_desk.specs.Answering.{Says, is_taken, said_of}
use Rattle.commands_desk.specs.Faults.{peer_failed}
use Rattle.commands_desk.specs.Pushing.{IsAnswered, Passed, Sends, TellsAnswer, passed_by}
use Rattle.commands_desk.specs.declared.faults.PushFault.{PushFault}
use Rattle.commands_desk.specs.declared.faults.PushFault.TheVariants.{LogBroken, NoEntry, Missing, TooLarge, Desk, KeeperFailed, PeerFailed, SinkFailed, Memory}

module _ (port : ℕ) (text : List ℕ) (connected connected_now : Option ℕ) (given given_now left left_now printed printed_now : Option (List ℕ))
    (at : IfSome connected_now (λ n. n ≡ port)) where
  abbrev p : Passed
  p = passed_by connected connected_now given given_now left left_now printed printed_now

  answered : (answer : Answer) → HasAsked given given_now left left_now text answer → IsAnswered port text p (said_of answer) (is_taken answer)
  answered (Reply code body) asked =
      record { at_port = at; sent = asked.sent; bytes = asked.bytes; came = asked.came; says = inl (record { code = code; reply = asked.answers; taken_is = refl }) }
  answered (Bad why) asked =
      record { at_port = at; sent = asked.sent; bytes = asked.bytes; came = asked.came; says = inr (record { why = why; bad = asked.answers; said_is = refl; taken_is = refl }) }

  pub told : (answer : Answer) (outcome : Result (Unit {0}) PushFault) → HasAsked given given_now left left_now text answer → TellsAnswer answer printed printed_now outcome → Sends port text p outcome
  told answer (Ok done) asked tells = record {
    said = said_of answer;
    answered = subst (λ (t : Bool). IsAnswered port text p (said_of answer) t) tells.0 (answered answer asked);
    printed_is = tells.1;
  }
  told answer (Err (LogBroken id)) asked tells = absurd tells
  told answer (Err NoEntry) asked tells = absurd tells
  told answer (Err (Missing id)) asked tells = absurd tells
  told answer (Err TooLarge) asked tells = absurd tells
  told answer (Err Desk) asked tells = record {
    said = said_of answer;
    answered = subst (λ (t : Bool). IsAnswered port text p (said_of answer) t) tells.0 (answered answer asked);
    printed_is = tells.1;
  }
  told answer (Err KeeperFailed) asked tells = absurd tells
  told answer (Err PeerFailed) asked tells = absurd tells
  told answer (Err SinkFailed) asked tells = record { said = said_of answer; taken = is_taken answer; answered = answered answer asked; part = tells }
  told answer (Err Memory) asked tells = absurd tells

-- printing an answer is no matter of the peer
pub quiet : (printed printed_now : Option (List ℕ)) (answer : Answer) (outcome : Result (Unit {0}) PushFault) (faults faults_now : ℕ) → faults ≤ faults_now → faults_now ≡ faults → TellsAnswer answer printed printed_now outcome → HasCause peer_failed faults faults_now outcome
quiet printed printed_now answer (Ok done) faults faults_now later is tells = record { later = later; is = is }
quiet printed printed_now answer (Err (LogBroken id)) faults faults_now later is tells = absurd tells
quiet printed printed_now answer (Err NoEntry) faults faults_now later is tells = absurd tells
quiet printed printed_now answer (Err (Missing id)) faults faults_now later is tells = absurd tells
quiet printed printed_now answer (Err TooLarge) faults faults_now later is tells = absurd tells
quiet printed printed_now answer (Err Desk) faults faults_now later is tells = record { later = later; is = is }
quiet printed printed_now answer (Err KeeperFailed) faults faults_now later is tells = absurd tells
quiet printed printed_now answer (Err PeerFailed) faults faults_now later is tells = absurd tells
quiet printed printed_now answer (Err SinkFailed) faults faults_now later is tells = record { later = later; is = is }
quiet printed printed_now answer (Err Memory) faults faults_now later is tells = absurd tells
