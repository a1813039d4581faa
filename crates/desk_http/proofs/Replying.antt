-- Replies, put together of what the desk answered and what was written.
use Rattle.std.proofs.Common.{◌≡◌, ℕ, List, refl}
use Rattle.std.specs.Prelude.{Result}
use Rattle.edge_io.specs.declared.sinks.Sink as sink
use Rattle.desk_turns.specs.Seats.{Sitting}
use Rattle.desk_messages.specs.ReplyBodies.{body_of, code_of, refusal_body, refusal_code}
use Rattle.desk_messages.specs.declared.requests.Asked.TheVariants as ask
use Rattle.desk_messages.specs.declared.requests.Refusal.{Refusal}
use Rattle.pushes.specs.declared.replies.Reply.{Reply}
use Rattle.pushes.specs.declared.replies.Reply.TheVariants as reply_
use Rattle.desk_http.specs.ServingAnswers.{given_code, pushed_body, pushed_code, text_body, tip_body}
use Rattle.desk_http.specs.Connections.{Replies, Writes}
use Rattle.desk_http.specs.declared.connections.End.{End}
use Rattle.desk_http.specs.declared.serving_desks.Pushed.{Pushed}
use Rattle.desk_http.specs.declared.serving_desks.Serves as serves

module _ {D K : Type 0} (desk_of : serves.Ghosts D) (sink_of : sink.Ghosts K) (desk : D) (old new : Sitting) (before after : K) (end : End) where
  pub tip : (answer : Result (ℕ × List ℕ) Reply) → desk_of.tells_tip desk old new answer → Writes sink_of (given_code answer) (tip_body answer) before after end
      → Replies desk_of sink_of desk ask.Tip old new before after end
  tip answer told writes = record {
    code = given_code answer;
    body = tip_body answer;
    answers = record { tip = answer; told = told; code_is = refl; body_is = refl };
    writes = writes;
  }

  pub verdict : (name : List ℕ) (answer : Result (List ℕ) Reply) → desk_of.judges desk name old new answer → Writes sink_of (given_code answer) (text_body answer) before after end
      → Replies desk_of sink_of desk (ask.Verify name) old new before after end
  verdict name answer told writes = record {
    code = given_code answer;
    body = text_body answer;
    answers = record { line = answer; told = told; code_is = refl; body_is = refl };
    writes = writes;
  }

  pub stream : (answer : Result (List ℕ) Reply) → desk_of.streams desk old new answer → Writes sink_of (given_code answer) (text_body answer) before after end
      → Replies desk_of sink_of desk ask.Stream old new before after end
  stream answer told writes = record {
    code = given_code answer;
    body = text_body answer;
    answers = record { text = answer; told = told; code_is = refl; body_is = refl };
    writes = writes;
  }

  pub push : (pushed : List ℕ) (answer : Pushed) → desk_of.pushes desk pushed old new answer → Writes sink_of (pushed_code answer) (pushed_body answer) before after end
      → Replies desk_of sink_of desk (ask.Push pushed) old new before after end
  push pushed answer told writes = record {
    code = pushed_code answer;
    body = pushed_body answer;
    answers = record { answer = answer; told = told; code_is = refl; body_is = refl };
    writes = writes;
  }

  pub refusal : (why : Refusal) → new ≡ old → Writes sink_of (refusal_code why) (refusal_body why) before after end
      → Replies desk_of sink_of desk (ask.Refused why) old new before after end
  refusal why same writes = record {
    code = refusal_code why;
    body = refusal_body why;
    answers = record { same = same; code_is = refl; body_is = refl };
    writes = writes;
  }

  pub memory : new ≡ old → Writes sink_of (code_of reply_.Memory) (body_of reply_.Memory) before after end → Replies desk_of sink_of desk ask.Memory old new before after end
  memory same writes = record {
    code = code_of reply_.Memory;
    body = body_of reply_.Memory;
    answers = record { same = same; code_is = refl; body_is = refl };
    writes = writes;
  }
