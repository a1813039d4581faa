-- What the bytes of a request ask, and why a request is refused: the first refusal whose cause holds decides.
use Rattle.std.specs.Prelude.{◌≡◌, ◌⊎◌, ◌&&◌, not, ℕ, List, [], ◌∷◌, Option, Some, None, length, take, bytes_eq, nat_lt}
use Rattle.std.specs.Prelude.{if◌then◌else◌, Result, Ok, Err}
use Rattle.git_object.specs.Names.{is_ref_name, log_name}
use Rattle.httparse.specs.Grammar.{RequestHead}
use Rattle.desk_messages.specs.Heads.{HasHead, HasNoHead}
use Rattle.desk_messages.specs.Lengths.{Says}
use Rattle.desk_messages.specs.Routes.{allowed, name_in, page_of}
use Rattle.desk_messages.specs.declared.routes.Page.{Page}
use Rattle.desk_messages.specs.declared.routes.Page.TheVariants as a_page
use Rattle.desk_messages.specs.declared.requests.Asked.{Asked}
use Rattle.desk_messages.specs.declared.requests.Asked.TheVariants as ask
use Rattle.desk_messages.specs.declared.requests.Refusal.{Refusal}
use Rattle.desk_messages.specs.declared.requests.Refusal.TheVariants.{BadRequest, LengthRequired, TooLarge}

-- the most bytes of the body of a push: 64 MiB
abbrev pub largest_body : ℕ
largest_body = 67108864

-- a verdict on the reference of this name, which is a reference's and not the log's own
abbrev pub verify_asked : List ℕ → Asked
verify_asked name = if is_ref_name name && not (bytes_eq name log_name) then ask.Verify name else ask.Refused BadRequest

-- a push, whose body is so many of the bytes behind the head
abbrev pub push_asked : Option ℕ → List ℕ → Asked
push_asked None rest = ask.Refused LengthRequired
push_asked (Some number) rest =
    if nat_lt largest_body number then ask.Refused (TooLarge number)
    else (if nat_lt (length rest) number then ask.Refused BadRequest else ask.Push (take number rest))

-- what is asked of a page
abbrev pub page_asked : Page → List ℕ → Option ℕ → List ℕ → Asked
page_asked a_page.Tip target said rest = ask.Tip
page_asked a_page.Verify target said rest = verify_asked (name_in target)
page_asked a_page.Stream target said rest = ask.Stream
page_asked a_page.Push target said rest = push_asked said rest

abbrev pub allowed_asked : Result Page Refusal → List ℕ → Option ℕ → List ℕ → Asked
allowed_asked (Ok page) target said rest = page_asked page target said rest
allowed_asked (Err why) target said rest = ask.Refused why

-- what a head asks that says this of its body, with these bytes behind it
abbrev pub head_asked : RequestHead → Option ℕ → List ℕ → Asked
head_asked head said rest = allowed_asked (allowed head.method (page_of head.target)) head.target said rest

-- what a head asks, with these bytes behind it
abbrev pub HeadAsks : RequestHead → List ℕ → Asked → Type 0
HeadAsks head rest asks =
    (((said : Option ℕ) → Says head said → ⊥) × (asks ≡ ask.Refused BadRequest))
    ⊎ ((said : Option ℕ) × Says head said × (asks ≡ head_asked head said rest))

-- what these bytes ask, where some are there
abbrev pub SomeAsk : List ℕ → Asked → Type 0
SomeAsk bytes asks =
    (HasNoHead bytes × (asks ≡ ask.Refused BadRequest))
    ⊎ ((head : RequestHead) × (rest : List ℕ) × HasHead bytes head rest × HeadAsks head rest asks)

-- what these bytes ask, where they are all that comes
abbrev pub Asks : List ℕ → Asked → Type 0
Asks [] asks = asks ≡ ask.Silent
Asks (byte ∷ bytes) asks = SomeAsk (byte ∷ bytes) asks
