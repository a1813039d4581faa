-- What holds of requests and replies.
use Rattle.std.specs.Prelude.{◌≡◌, ◌≤◌, ◌<◌, ◌^◌, ℕ, List, IsTrue, length}
use Rattle.desk_messages.specs.Texts.{is_reply_code, reply_text}
use Rattle.desk_messages.specs.ClientHeads.{largest_body}
use Rattle.desk_messages.specs.Replies.{IsBad, IsReply}
use Rattle.desk_messages.specs.Requests.{request_text}
use Rattle.desk_messages.specs.declared.replies.BadReply.{BadReply}

-- bytes are one reply at most
abbrev pub OneReading : Type 0
OneReading = (bytes : List ℕ) (a b : ℕ) (body other : List ℕ) → IsReply bytes a body → IsReply bytes b other
    → (a ≡ b) × (body ≡ other)

-- no reply is bad, and what is bad is so for one cause alone
pub record OneCause : Type 0 where
  pub apart : (bytes : List ℕ) (code : ℕ) (body : List ℕ) (why : BadReply) → IsReply bytes code body
      → IsBad bytes why → ⊥
  pub one : (bytes : List ℕ) (a b : BadReply) → IsBad bytes a → IsBad bytes b → a ≡ b

-- the text of a desk's reply whose body is short enough is read as that reply
abbrev pub ReadsTexts : Type 0
ReadsTexts = (code : ℕ) (body : List ℕ) → IsTrue (is_reply_code code) → length body ≤ largest_body
    → IsReply (reply_text code body) code body

-- each push has a request of its own
abbrev pub OneRequest : Type 0
OneRequest = (push other : List ℕ) → length push < 2 ^ 64 → length other < 2 ^ 64
    → request_text push ≡ request_text other → push ≡ other
