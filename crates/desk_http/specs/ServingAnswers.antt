-- What each request is answered: the code and the body of its reply, and between which views of the seat.
use Rattle.std.specs.Prelude.{◌≡◌, ℕ, List, Result, Ok, Err, codes}
use Rattle.desk_turns.specs.Seats.{Sitting}
use Rattle.desk_messages.specs.ReplyBodies.{body_of, code_of, entry_line, refusal_body, refusal_code}
use Rattle.desk_messages.specs.declared.requests.Asked.{Asked}
use Rattle.desk_messages.specs.declared.requests.Asked.TheVariants as ask
use Rattle.pushes.specs.declared.replies.Reply.{Reply}
use Rattle.pushes.specs.declared.replies.Reply.TheVariants as reply_
use Rattle.desk_http.specs.declared.serving_desks.Pushed.{Pushed}
use Rattle.desk_http.specs.declared.serving_desks.Pushed.TheVariants.{Denied, Replied}
use Rattle.desk_http.specs.declared.serving_desks.Serves as serves

-- ---- the code and the body of what a desk answers
abbrev pub given_code : {T : Type 0} → Result T Reply → ℕ
given_code (Ok given) = 200
given_code (Err reply) = code_of reply

abbrev pub tip_body : Result (ℕ × List ℕ) Reply → List ℕ
tip_body (Ok tip) = entry_line (codes "tip") tip.0 tip.1
tip_body (Err reply) = body_of reply

abbrev pub text_body : Result (List ℕ) Reply → List ℕ
text_body (Ok text) = text
text_body (Err reply) = body_of reply

abbrev pub pushed_code : Pushed → ℕ
pushed_code (Replied reply) = code_of reply
pushed_code (Denied line) = 403

abbrev pub pushed_body : Pushed → List ℕ
pushed_body (Replied reply) = body_of reply
pushed_body (Denied line) = line

-- ---- what a request is answered between two views of the seat
module _ {D : Type 0} (desk_of : serves.Ghosts D) (desk : D) (old new : Sitting) (code : ℕ) (body : List ℕ) where
  -- by the desk's tip
  pub record AnswersTip : Type 0 where
    pub tip : Result (ℕ × List ℕ) Reply
    pub told : desk_of.tells_tip desk old new tip
    pub code_is : code ≡ given_code tip
    pub body_is : body ≡ tip_body tip

  -- by the desk's verdict on the reference of this name
  pub record AnswersVerdict (name : List ℕ) : Type 0 where
    pub line : Result (List ℕ) Reply
    pub told : desk_of.judges desk name old new line
    pub code_is : code ≡ given_code line
    pub body_is : body ≡ text_body line

  -- by the text of the repository
  pub record AnswersStream : Type 0 where
    pub text : Result (List ℕ) Reply
    pub told : desk_of.streams desk old new text
    pub code_is : code ≡ given_code text
    pub body_is : body ≡ text_body text

  -- by what the desk answers a push of these bytes
  pub record AnswersPush (pushed : List ℕ) : Type 0 where
    pub answer : Pushed
    pub told : desk_of.pushes desk pushed old new answer
    pub code_is : code ≡ pushed_code answer
    pub body_is : body ≡ pushed_body answer

  -- without the desk, whose seat stays as it was
  pub record AnswersAlone (fixed_code : ℕ) (fixed_body : List ℕ) : Type 0 where
    pub same : new ≡ old
    pub code_is : code ≡ fixed_code
    pub body_is : body ≡ fixed_body

  -- where nothing was asked, and where the source failed, there is no answer
  abbrev pub Answers : Asked → Type 0
  Answers ask.Tip = AnswersTip
  Answers (ask.Verify name) = AnswersVerdict name
  Answers ask.Stream = AnswersStream
  Answers (ask.Push pushed) = AnswersPush pushed
  Answers (ask.Refused why) = AnswersAlone (refusal_code why) (refusal_body why)
  Answers ask.Memory = AnswersAlone (code_of reply_.Memory) (body_of reply_.Memory)
  Answers ask.Silent = ⊥
  Answers ask.LinkFailed = ⊥
