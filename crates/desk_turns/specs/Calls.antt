-- What each call of a desk answers, and what it does to the seat of its caller.
use Rattle.std.specs.Prelude.{◌≡◌, ◌⊎◌, ◌<◌, ◌≤◌, ◌-◌, ◌^◌, ◌++◌, ◌∷◌, [], ℕ, Bool, true, false, List, Option, None}
use Rattle.std.specs.Prelude.{Result, Ok, Err, IsErrOf, unwrap_or}
use Rattle.octets.specs.Content.{Stays}
use Rattle.git_object.specs.Ids.{zeros}
use Rattle.git_object.specs.Repository.{Repository}
use Rattle.pushes.specs.Pushes.{IsPushText}
use Rattle.pushes.specs.Refusals.{IsRefused}
use Rattle.pushes.specs.declared.push_faults.PushFault.{PushFault}
use Rattle.pushes.specs.declared.push_faults.PushFault.TheVariants as fault_
use Rattle.pushes.specs.declared.pushed.Push.{Push}
use Rattle.desk_turns.specs.Histories.{Begins, History, Member, count, with_member}
use Rattle.desk_turns.specs.Seats.{Sitting, mine}
use Rattle.pushes.specs.Steps.{tip_of}
use Rattle.pushes.specs.declared.replies.Reply.{Reply}
use Rattle.pushes.specs.declared.replies.Reply.TheVariants as reply_
use Rattle.desk_turns.specs.Legal.{last, rows}

-- ---- the seat

-- The same seat, later, which holds no turn: what it had seen begins what it has seen, which is legal where that was,
-- and it counted no fewer faults.
pub record Returns (legal : History → Type 0) (old new : Sitting) : Type 0 where
  pub same_turn : new.turn ≡ old.turn
  pub same_number : new.number ≡ old.number
  pub idle : new.holds ≡ false
  pub later : Begins old.seen new.seen
  pub is_legal : legal old.seen → legal new.seen
  pub own_more : old.own ≤ new.own

-- and it added nothing
pub record OnlySees (legal : History → Type 0) (old new : Sitting) : Type 0 where
  pub returns : Returns legal old new
  pub mine_same : mine new ≡ mine old

-- the seat counted a fault in the call, or the count of faults stands at its end
abbrev pub HasFault : Sitting → Sitting → Type 0
HasFault old new = (old.own < new.own) ⊎ (new.faults ≡ 2 ^ 64 - 1)

-- the history has one member more, of this id and seat
pub record IsOneMore (h : History) (id : List ℕ) (seat : ℕ) (more : History) : Type 0 where
  pub member : Member
  pub id_is : member.id ≡ id
  pub seat_is : member.seat ≡ seat
  pub is : more ≡ with_member h member

-- after an answer to a push of this id: the seat has seen this history and that entry of its own, and added it, exactly
-- where the push is done; else it has seen this history
pub record IsDone (h : History) (id : List ℕ) (old new : Sitting) : Type 0 where
  pub more : IsOneMore h id old.number new.seen
  pub mine_more : mine new ≡ mine old ++ id ∷ []

pub record IsNotDone (h : History) (old new : Sitting) : Type 0 where
  pub same : new.seen ≡ h
  pub mine_same : mine new ≡ mine old

abbrev pub IsDoneWhere : Bool → History → List ℕ → Sitting → Sitting → Type 0
IsDoneWhere true h id old new = IsDone h id old new
IsDoneWhere false h id old new = IsNotDone h old new

-- ---- a body that is no push

abbrev pub reply_of : PushFault → Reply
reply_of (fault_.Malformed at) = reply_.Malformed at
reply_of (fault_.TooLarge length) = reply_.TooLarge length
reply_of fault_.Memory = reply_.Memory

-- no turn was taken
pub record IsUnread {A : Type 0} (plain : Reply → A) (body : List ℕ) (answer : A) (old new : Sitting) : Type 0 where
  pub fault : PushFault
  pub refused : IsRefused body fault
  pub answer_is : answer ≡ plain (reply_of fault)
  pub same : new ≡ old

module _ {S : Type 0} (stands : S → History → Type 0) (told : S → Option Repository) where
  -- ---- a doubt that stays

  -- the shop that was given back tells nothing of what its store holds
  pub record IsMoved (new : Sitting) : Type 0 where
    pub shop : S
    pub is_state : stands shop new.seen
    pub untold : told shop ≡ None

  -- why a call asks nothing
  abbrev pub IsUnsettled : Reply → Sitting → Sitting → Type 0
  IsUnsettled (reply_.Done number id) old new = ⊥
  IsUnsettled (reply_.Already number) old new = ⊥
  IsUnsettled (reply_.Stale number id) old new = ⊥
  IsUnsettled (reply_.Malformed at) old new = ⊥
  IsUnsettled (reply_.Incomplete id) old new = ⊥
  IsUnsettled (reply_.TooLarge length) old new = ⊥
  IsUnsettled (reply_.Misnumbered number expected) old new = ⊥
  IsUnsettled (reply_.Moved found expected) old new = IsMoved new
  IsUnsettled reply_.Fault old new = HasFault old new
  IsUnsettled reply_.Memory old new = Unit {0}

  abbrev pub IsUnsettledAs : Result (List ℕ) Reply → Sitting → Sitting → Type 0
  IsUnsettledAs (Ok text) old new = ⊥
  IsUnsettledAs (Err reply) old new = IsUnsettled reply old new

  -- ---- the tip

  -- how many entries the seat has seen, and the last of them, or zeros
  pub record IsTip (number : ℕ) (id : List ℕ) (new : Sitting) : Type 0 where
    pub number_is : number ≡ count new.seen
    pub id_is : id ≡ unwrap_or (tip_of (rows new.seen)) zeros

  abbrev pub TellsTip : Result (ℕ × List ℕ) Reply → Sitting → Sitting → Type 0
  TellsTip (Ok tip) old new = IsTip tip.0 tip.1 new
  TellsTip (Err reply) old new = IsUnsettled reply old new

  -- ---- a verdict

  module _ {J : Type 0} (judges : S → History → List ℕ → J → Type 0) where
    -- the shop that was given back judged a reference by all that the seat has seen
    pub record IsJudgedBy (name : List ℕ) (verdict : J) (new : Sitting) : Type 0 where
      pub shop : S
      pub is_state : stands shop new.seen
      pub judged : judges shop new.seen name verdict

    abbrev pub GivesVerdict : List ℕ → Result J Reply → Sitting → Sitting → Type 0
    GivesVerdict name (Ok verdict) old new = IsJudgedBy name verdict new
    GivesVerdict name (Err reply) old new = IsUnsettled reply old new

  -- ---- a stream

  module _ (streams : S → History → Result (List ℕ) Reply → Type 0) where
    -- the shop that was given back gave this by all that the seat has seen
    pub record IsStreamedBy (result : Result (List ℕ) Reply) (old new : Sitting) : Type 0 where
      pub shop : S
      pub is_state : stands shop new.seen
      pub streamed : streams shop new.seen result
      pub fault : IsErrOf result reply_.Fault → HasFault old new

    abbrev pub Streams : Result (List ℕ) Reply → Sitting → Sitting → Type 0
    Streams result old new = IsUnsettledAs result old new ⊎ IsStreamedBy result old new

  -- ---- a push

  module _ {A : Type 0} (answers : S → History → Push → A → Type 0) (is_done is_fault : A → Bool) (plain : Reply → A)
    where
      -- Of a push that was read, the shop that was given back answered at a history that the seat has seen, to which
      -- the push's entry was added exactly where it is done. Then its store, where it tells what it holds, holds the
      -- last repository that the seat has seen.
      pub record IsAnswered (push : Push) (answer : A) (old new : Sitting) : Type 0 where
        pub before : History
        pub since : Begins old.seen before
        pub shop : S
        pub is_state : stands shop new.seen
        pub says : answers shop before push answer
        pub done : IsDoneWhere (is_done answer) before push.entry.id old new
        pub told_last : is_done answer ≡ true → Stays (last new.seen) (told shop)
        pub fault : is_fault answer ≡ true → HasFault old new

      -- a doubt stays, and nothing was asked
      pub record IsUnasked (answer : A) (old new : Sitting) : Type 0 where
        pub reply : Reply
        pub answer_is : answer ≡ plain reply
        pub why : IsUnsettled reply old new
        pub mine_same : mine new ≡ mine old

      abbrev pub AnswersPush : Push → A → Sitting → Sitting → Type 0
      AnswersPush push answer old new = IsUnasked answer old new ⊎ IsAnswered push answer old new

      -- the body is the text of a push
      pub record IsRead (body : List ℕ) (answer : A) (old new : Sitting) : Type 0 where
        pub push : Push
        pub text : IsPushText push body
        pub answered : AnswersPush push answer old new

      -- what an answer to a body means
      abbrev pub Pushes : List ℕ → A → Sitting → Sitting → Type 0
      Pushes body answer old new = IsUnread plain body answer old new ⊎ IsRead body answer old new

-- ---- the turn, inside a call

module _ {S : Type 0} (stands : S → History → Type 0) (in_doubt : S → Bool) (counted : S → ℕ) where
  -- the seat has the turn, with a shop that stands for what it has seen, and in which nothing is in doubt
  pub record Enters (shop : S) (old new : Sitting) : Type 0 where
    pub same_turn : new.turn ≡ old.turn
    pub same_number : new.number ≡ old.number
    pub some : 0 < new.number
    pub holds : new.holds ≡ true
    pub later : Begins old.seen new.seen
    pub mine_same : mine new ≡ mine old
    pub own_more : old.own ≤ new.own
    pub is_state : stands shop new.seen
    pub clear : in_doubt shop ≡ false
    pub room : count new.seen < 2 ^ 62
    pub faults_are : new.faults ≤ counted shop
