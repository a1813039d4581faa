-- What the replies of a desk to pushes come to.
use Rattle.std.specs.Prelude.{◌≡◌, ◌⊎◌, ℕ, List, Some}
use Rattle.git_object.specs.Repository.{Repository}
use Rattle.keeper_api.specs.declared.keepers.Keeper as keeper
use Rattle.pushes.specs.Pushes.{IsPushText}
use Rattle.pushes.specs.Refusals.{IsRefused}
use Rattle.pushes.specs.declared.push_faults.PushFault.{PushFault}
use Rattle.pushes.specs.declared.pushed.Push.{Push}
use Rattle.desk_turns.specs.Histories.{Begins, History}
use Rattle.desk_turns.specs.Seats.{Sitting}
use Rattle.pushes.specs.declared.replies.Reply.{Reply}
use Rattle.desk_turns.specs.Laws.{IsToldReply}
use Rattle.desk_turns.specs.States.{is_fault}
use Rattle.desk_turns.specs.Legal.{IsLegal}
use Rattle.desk_turns.specs.Calls as calls
use Rattle.desk_shops.specs.Desks.{IsStepOf, answers_in, done_reply, stands_in, told_in}
use Rattle.desk_http.specs.declared.serving_desks.Pushed.{Pushed}
use Rattle.desk_http.specs.declared.serving_desks.Pushed.TheVariants.{Replied}
use Rattle.desk_http.specs.Answers.{AnswersPush}

-- the bytes are no push, for this reason, and nothing of the seat changed
pub record IsNoPush (body : List ℕ) (said : Pushed) (old new : Sitting) : Type 0 where
  pub fault : PushFault
  pub refused : IsRefused body fault
  pub pushed_is : said ≡ Replied (calls.reply_of fault)
  pub same : new ≡ old

module _ {R : Type 0} (k : keeper.Ghosts R) where
  -- what a desk that takes whatever is well formed answers of these bytes
  abbrev pub DeskPushes : List ℕ → Pushed → Sitting → Sitting → Type 0
  DeskPushes = AnswersPush IsLegal (stands_in k) (told_in k) (answers_in k) done_reply is_fault (λ r. r) Replied

  -- The bytes spell a push, and the reply to it is the desk's relation between a history that goes on from what the
  -- seat had seen, and what the seat has seen then: at their ids and their last repositories.
  pub record IsStepped (body : List ℕ) (reply : Reply) (old new : Sitting) : Type 0 where
    pub push : Push
    pub text : IsPushText push body
    pub before : History
    pub since : Begins old.seen before
    pub step : IsStepOf k before push old.number reply new.seen

  -- over stores that always tell what they hold, each reply to a push, but for a fault and want of memory, says why the
  -- bytes are no push, or is the desk's relation
  abbrev pub EachReplyIsStep : Type 0
  EachReplyIsStep =
      ((store : R) → (r : Repository) × (k.content store ≡ Some r))
      → (body : List ℕ) (reply : Reply) (old new : Sitting) → DeskPushes body (Replied reply) old new
      → IsToldReply reply
      → IsNoPush body (Replied reply) old new ⊎ IsStepped body reply old new
