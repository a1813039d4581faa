-- The bodies of replies, each of them one line.
use Rattle.std.specs.Prelude.{◌++◌, ℕ, List, codes, decimal}
use Rattle.hex.specs.Hex.{encode_lower}
use Rattle.desk_messages.specs.declared.requests.Refusal.{Refusal}
use Rattle.desk_messages.specs.declared.requests.Refusal.TheVariants.{BadRequest, NotFound}
use Rattle.desk_messages.specs.declared.requests.Refusal.TheVariants.{MethodNotAllowed, LengthRequired}
use Rattle.desk_messages.specs.declared.requests.Refusal.TheVariants as why
use Rattle.pushes.specs.declared.replies.Reply.{Reply}
use Rattle.pushes.specs.declared.replies.Reply.TheVariants.{Already, Done, Fault, Incomplete, Malformed, Memory}
use Rattle.pushes.specs.declared.replies.Reply.TheVariants.{Misnumbered, Moved, Stale, TooLarge}
use Rattle.desk_messages.specs.Texts.{reply_text}

-- the code of what a push is answered
abbrev pub code_of : Reply → ℕ
code_of (Done number id) = 201
code_of (Already number) = 200
code_of (Stale number id) = 409
code_of (Malformed at) = 400
code_of (Incomplete id) = 422
code_of (TooLarge len) = 413
code_of (Misnumbered number expected) = 422
code_of (Moved found expected) = 502
code_of Fault = 500
code_of Memory = 503

-- a word and a number, with an id or without, and the end of the line
abbrev pub number_line : List ℕ → ℕ → List ℕ
number_line word number = word ++ codes " " ++ decimal number ++ codes "\n"

abbrev pub entry_line : List ℕ → ℕ → List ℕ → List ℕ
entry_line word number id = word ++ codes " " ++ decimal number ++ codes " " ++ encode_lower id ++ codes "\n"

-- its body
abbrev pub body_of : Reply → List ℕ
body_of (Done number id) = entry_line (codes "done") number id
body_of (Already number) = number_line (codes "already") number
body_of (Stale number id) = entry_line (codes "stale") number id
body_of (Malformed at) = number_line (codes "malformed") at
body_of (Incomplete id) = codes "incomplete" ++ codes " " ++ encode_lower id ++ codes "\n"
body_of (TooLarge len) = number_line (codes "too large") len
body_of (Misnumbered number expected) =
    codes "misnumbered" ++ codes " " ++ decimal number ++ codes " " ++ decimal expected ++ codes "\n"
body_of (Moved found expected) =
    codes "moved" ++ codes " " ++ encode_lower found ++ codes " " ++ encode_lower expected ++ codes "\n"
body_of Fault = codes "fault" ++ codes "\n"
body_of Memory = codes "memory" ++ codes "\n"

-- the code of a request that is refused
abbrev pub refusal_code : Refusal → ℕ
refusal_code BadRequest = 400
refusal_code NotFound = 404
refusal_code MethodNotAllowed = 405
refusal_code LengthRequired = 411
refusal_code (why.TooLarge len) = 413

-- its body
abbrev pub refusal_body : Refusal → List ℕ
refusal_body BadRequest = codes "bad request" ++ codes "\n"
refusal_body NotFound = codes "not found" ++ codes "\n"
refusal_body MethodNotAllowed = codes "method not allowed" ++ codes "\n"
refusal_body LengthRequired = codes "length required" ++ codes "\n"
refusal_body (why.TooLarge len) = number_line (codes "too large") len

-- the whole replies
abbrev pub answer_text : Reply → List ℕ
answer_text reply = reply_text (code_of reply) (body_of reply)

abbrev pub refusal_text : Refusal → List ℕ
refusal_text refusal = reply_text (refusal_code refusal) (refusal_body refusal)

abbrev pub tip_text : ℕ → List ℕ → List ℕ
tip_text count id = reply_text 200 (entry_line (codes "tip") count id)
