-- What a desk answers, and what is printed of it.
use Rattle.std.specs.Prelude.{◌≡◌, ◌⊎◌, ◌==◌, ◌||◌, ℕ, Bool, false, List, codes}
use Rattle.desk_messages.specs.Replies.{IsBad, IsReply}
use Rattle.desk_messages.specs.declared.asking.Answer.{Answer}
use Rattle.desk_messages.specs.declared.asking.Answer.TheVariants.{Reply, Bad}
use Rattle.desk_messages.specs.declared.replies.BadReply.{BadReply}

-- the codes with which a push was taken: it is done, or it was there already
abbrev pub is_done_code : ℕ → Bool
is_done_code code = (code == 200) || (code == 201)

-- the line that says that what came is no reply
abbrev pub bad_line : List ℕ
bad_line = codes "bad reply\n"

abbrev pub is_taken : Answer → Bool
is_taken (Reply code body) = is_done_code code
is_taken (Bad why) = false

abbrev pub said_of : Answer → List ℕ
said_of (Reply code body) = body.now
said_of (Bad why) = bad_line

-- the bytes are a reply, whose body is printed
pub record IsReplied (bytes said : List ℕ) (taken : Bool) : Type 0 where
  pub code : ℕ
  pub reply : IsReply bytes code said
  pub taken_is : taken ≡ is_done_code code

-- the bytes are no reply
pub record IsGarbled (bytes said : List ℕ) (taken : Bool) : Type 0 where
  pub why : BadReply
  pub bad : IsBad bytes why
  pub said_is : said ≡ bad_line
  pub taken_is : taken ≡ false

-- of these bytes this is printed, and they say whether the push was taken
abbrev pub Says : List ℕ → List ℕ → Bool → Type 0
Says bytes said taken = IsReplied bytes said taken ⊎ IsGarbled bytes said taken
