-- What each outcome of `push` means.
use Rattle.std.specs.Prelude.{◌≡◌, ◌⊎◌, ℕ, Bool, true, false, List, Option, Result, Ok, Err, IfSome}
use Rattle.octets.specs.Content.{GainsPart, with_end}
use Rattle.git_object.specs.Repository.{Repository}
use Rattle.rsl_chain.specs.Logs.{IsBreakOf}
use Rattle.worlds.specs.Breaks.{break_line}
use Rattle.desk_messages.specs.ClientAsking.{HasCome, HasStopped}
use Rattle.desk_messages.specs.Requests.{request_text}
use Rattle.desk_messages.specs.declared.asking.Answer.{Answer}
use Rattle.commands_desk.specs.Answering.{Says, is_taken, said_of}
use Rattle.commands_desk.specs.Preparing.{HasNoEntry, IsReady, IsTooLargeOf, LacksOf, Told}
use Rattle.commands_desk.specs.declared.faults.PushFault.{PushFault}
use Rattle.commands_desk.specs.declared.faults.PushFault.TheVariants.{LogBroken, NoEntry, Missing, TooLarge, Desk}
use Rattle.commands_desk.specs.declared.faults.PushFault.TheVariants.{KeeperFailed, PeerFailed, SinkFailed, Memory}

-- what printing an answer comes to
abbrev pub TellsAnswer : Answer → Option (List ℕ) → Option (List ℕ) → Result (Unit {0}) PushFault → Type 0
TellsAnswer answer printed printed_now (Ok done) =
    (is_taken answer ≡ true) × (printed_now ≡ with_end printed (said_of answer))
TellsAnswer answer printed printed_now (Err (LogBroken id)) = ⊥
TellsAnswer answer printed printed_now (Err NoEntry) = ⊥
TellsAnswer answer printed printed_now (Err (Missing id)) = ⊥
TellsAnswer answer printed printed_now (Err TooLarge) = ⊥
TellsAnswer answer printed printed_now (Err Desk) =
    (is_taken answer ≡ false) × (printed_now ≡ with_end printed (said_of answer))
TellsAnswer answer printed printed_now (Err KeeperFailed) = ⊥
TellsAnswer answer printed printed_now (Err PeerFailed) = ⊥
TellsAnswer answer printed printed_now (Err SinkFailed) = GainsPart printed printed_now (said_of answer)
TellsAnswer answer printed printed_now (Err Memory) = ⊥

-- at which port a desk was last connected to, what was given to it and came of it, and what was printed
pub record Passed : Type 0 where
  pub connected : Option ℕ
  pub connected_now : Option ℕ
  pub given : Option (List ℕ)
  pub given_now : Option (List ℕ)
  pub left : Option (List ℕ)
  pub left_now : Option (List ℕ)
  pub printed : Option (List ℕ)
  pub printed_now : Option (List ℕ)

abbrev pub passed_by : Option ℕ → Option ℕ → Option (List ℕ) → Option (List ℕ) → Option (List ℕ) → Option (List ℕ)
    → Option (List ℕ) → Option (List ℕ) → Passed
passed_by connected connected_now given given_now left left_now printed printed_now = record {
  connected = connected;
  connected_now = connected_now;
  given = given;
  given_now = given_now;
  left = left;
  left_now = left_now;
  printed = printed;
  printed_now = printed_now;
}

-- the request of the push went out to a desk at this port, and what came of it says this
pub record IsAnswered (port : ℕ) (text : List ℕ) (p : Passed) (said : List ℕ) (taken : Bool) : Type 0 where
  pub at_port : IfSome p.connected_now (λ at. at ≡ port)
  pub sent : p.given_now ≡ with_end p.given (request_text text)
  pub bytes : List ℕ
  pub came : HasCome p.left p.left_now bytes
  pub says : Says bytes said taken

-- it was answered, and just that was printed
pub record IsTold (port : ℕ) (text : List ℕ) (p : Passed) (taken : Bool) : Type 0 where
  pub said : List ℕ
  pub answered : IsAnswered port text p said taken
  pub printed_is : p.printed_now ≡ with_end p.printed said

-- it was answered, and a front of that was printed, and not all of it
pub record IsToldPart (port : ℕ) (text : List ℕ) (p : Passed) : Type 0 where
  pub said : List ℕ
  pub taken : Bool
  pub answered : IsAnswered port text p said taken
  pub part : GainsPart p.printed p.printed_now said

-- there was no answer, and nothing was printed
pub record IsCutOff (text : List ℕ) (p : Passed) : Type 0 where
  pub stopped : HasStopped p.given p.given_now p.left p.left_now text
  pub unprinted : p.printed_now ≡ p.printed

-- no desk was asked
pub record IsUnasked (p : Passed) : Type 0 where
  pub unconnected : p.connected_now ≡ p.connected
  pub unwritten : p.given_now ≡ p.given
  pub unread : p.left_now ≡ p.left

-- nor was anything printed
pub record IsNothing (p : Passed) : Type 0 where
  pub unasked : IsUnasked p
  pub unprinted : p.printed_now ≡ p.printed

-- what sending the push of this text to the desk at this port comes to
abbrev pub Sends : ℕ → List ℕ → Passed → Result (Unit {0}) PushFault → Type 0
Sends port text p (Ok done) = IsTold port text p true
Sends port text p (Err (LogBroken id)) = ⊥
Sends port text p (Err NoEntry) = ⊥
Sends port text p (Err (Missing id)) = ⊥
Sends port text p (Err TooLarge) = ⊥
Sends port text p (Err Desk) = IsTold port text p false
Sends port text p (Err KeeperFailed) = ⊥
Sends port text p (Err PeerFailed) = IsCutOff text p
Sends port text p (Err SinkFailed) = IsToldPart port text p
Sends port text p (Err Memory) = IsNothing p

-- ---- the whole

module _ (port number : ℕ) (held : Option Repository) (p : Passed) where
  -- the push of the entry was made, and of sending it this is so
  pub record OfPush (So : List ℕ → Type 0) : Type 0 where
    pub text : List ℕ
    pub ready : IsReady held number text
    pub so : So text

  -- no desk was asked, as this is so of what the store tells, and nothing was printed
  pub record IsUnsent (So : Repository → Type 0) : Type 0 where
    pub told : Told held So
    pub nothing_done : IsNothing p

  -- the log breaks at this id; no desk was asked, and exactly the line that says so was printed
  pub record IsBroken (id : List ℕ) : Type 0 where
    pub told : Told held (λ r. IsBreakOf r id)
    pub unasked : IsUnasked p
    pub printed_is : p.printed_now ≡ with_end p.printed (break_line id)

  -- a front of that line was printed, and not all of it
  pub record IsBrokenPart : Type 0 where
    pub id : List ℕ
    pub told : Told held (λ r. IsBreakOf r id)
    pub unasked : IsUnasked p
    pub part : GainsPart p.printed p.printed_now (break_line id)

  abbrev pub PushEnds : Result (Unit {0}) PushFault → Type 0
  PushEnds (Ok done) = OfPush (λ text. IsTold port text p true)
  PushEnds (Err (LogBroken id)) = IsBroken id
  PushEnds (Err NoEntry) = IsUnsent (λ r. HasNoEntry r number)
  PushEnds (Err (Missing id)) = IsUnsent (λ r. LacksOf r number id)
  PushEnds (Err TooLarge) = IsUnsent (λ r. IsTooLargeOf r number)
  PushEnds (Err Desk) = OfPush (λ text. IsTold port text p false)
  PushEnds (Err KeeperFailed) = IsNothing p
  PushEnds (Err PeerFailed) = OfPush (λ text. IsCutOff text p)
  PushEnds (Err SinkFailed) = OfPush (λ text. IsToldPart port text p) ⊎ IsBrokenPart
  PushEnds (Err Memory) = IsNothing p
