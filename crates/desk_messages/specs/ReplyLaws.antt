-- What holds of the texts of replies.
use Rattle.std.specs.Prelude.{◌≡◌, ◌<◌, ◌++◌, ◌^◌, ℕ, List, length}
use Rattle.desk_messages.specs.Texts.{reply_text}

-- a text is of one reply, and no reply's text begins another's: a reader knows by what it read that the reply is whole
abbrev pub OneReply : Type 0
OneReply = (a b : ℕ) (body other more : List ℕ) → length body < 2 ^ 64 → length other < 2 ^ 64
    → reply_text a body ++ more ≡ reply_text b other → (a ≡ b) × (body ≡ other)
