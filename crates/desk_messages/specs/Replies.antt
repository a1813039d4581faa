-- Which bytes are a reply, and why others are none.
use Rattle.std.specs.Prelude.{◌≡◌, ◌≢◌, ℕ, List, length}
use Rattle.httparse.specs.Grammar.{ResponseHead, status_code}
use Rattle.desk_messages.specs.ClientHeads.{HasHead, HasNoHead, Says}
use Rattle.desk_messages.specs.declared.replies.BadReply.{BadReply}
use Rattle.desk_messages.specs.declared.replies.BadReply.TheVariants.{NoHead, NoLength, OtherLength}

-- the bytes are a head with this code, and behind it just the body whose length it says
pub record IsReply (bytes : List ℕ) (code : ℕ) (body : List ℕ) : Type 0 where
  pub head : ResponseHead
  pub has : HasHead bytes head body
  pub says : Says head (length body)
  pub code_is : code ≡ status_code head

-- a head stands in front that says no length that a body may have
pub record HasNoLength (bytes : List ℕ) : Type 0 where
  pub head : ResponseHead
  pub rest : List ℕ
  pub has : HasHead bytes head rest
  pub none : (len : ℕ) → Says head len → ⊥

-- a head stands in front that says this length, and behind it stand so many bytes, which are more or fewer
pub record HasOther (bytes : List ℕ) (said found : ℕ) : Type 0 where
  pub head : ResponseHead
  pub rest : List ℕ
  pub has : HasHead bytes head rest
  pub says : Says head said
  pub found_is : found ≡ length rest
  pub other : said ≢ found

-- why bytes are no reply
abbrev pub IsBad : List ℕ → BadReply → Type 0
IsBad bytes NoHead = HasNoHead bytes
IsBad bytes NoLength = HasNoLength bytes
IsBad bytes (OtherLength said found) = HasOther bytes said found
