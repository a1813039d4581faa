-- What was sent to a desk, and what came of it.
use Rattle.std.specs.Prelude.{◌≡◌, ◌≤◌, ◌⊎◌, ℕ, List, Option, length}
use Rattle.octets.specs.Content.{GainsPart, with_end, with_front}
use Rattle.edge_io.specs.Read.{IsAtEnd}
use Rattle.desk_messages.specs.Reading.{HasFront}
use Rattle.desk_messages.specs.Replies.{IsBad, IsReply}
use Rattle.desk_messages.specs.Requests.{request_text}
use Rattle.desk_messages.specs.declared.asking.Answer.{Answer}
use Rattle.desk_messages.specs.declared.asking.Answer.TheVariants.{Reply, Bad}

-- the most bytes that are read of what comes: one more than a reply may have
abbrev pub most_read : ℕ
most_read = 20481

-- these bytes came, which are all of them or as many as are read
pub record HasCome (before after : Option (List ℕ)) (bytes : List ℕ) : Type 0 where
  pub read : before ≡ with_front bytes after
  pub few : length bytes ≤ most_read
  pub stops : IsAtEnd after ⊎ (length bytes ≡ most_read)

-- what the bytes that came are
abbrev pub Answers : List ℕ → Answer → Type 0
Answers bytes (Reply code body) = IsReply bytes code body.now
Answers bytes (Bad why) = IsBad bytes why

-- the request was sent, and what came of it is this answer
pub record HasAsked (given given_now left left_now : Option (List ℕ)) (push : List ℕ) (answer : Answer) : Type 0 where
  pub sent : given_now ≡ with_end given (request_text push)
  pub bytes : List ℕ
  pub came : HasCome left left_now bytes
  pub answers : Answers bytes answer

-- there was no answer: a front of the request was sent and nothing read, or all of it, and what came was read in part
abbrev pub HasStopped : Option (List ℕ) → Option (List ℕ) → Option (List ℕ) → Option (List ℕ) → List ℕ → Type 0
HasStopped given given_now left left_now push =
    (GainsPart given given_now (request_text push) × (left_now ≡ left))
    ⊎ ((given_now ≡ with_end given (request_text push)) × HasFront left left_now)
