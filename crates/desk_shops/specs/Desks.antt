-- A shop as what a desk asks: which answers are done, and what is said of a reference.
use Rattle.std.specs.Prelude.{◌≡◌, ℕ, Bool, true, false, List, Option, Some, None, Result, Ok, Err}
use Rattle.std.specs.Option.{is_some}
use Rattle.std.proofs.Common.{ap, refl, subst, true≢false}
use Rattle.octets.specs.Content.{Stays}
use Rattle.git_object.specs.Repository.{Repository}
use Rattle.keeper_api.specs.declared.keepers.Keeper as keeper
use Rattle.keeper_api.specs.declared.keeper_faults.KeeperFault.{KeeperFault}
use Rattle.keeper_api.specs.declared.keeper_faults.KeeperFault.TheVariants as keeper_
use Rattle.rsl_chain.specs.declared.log_faults.LogFault.{LogFault}
use Rattle.rsl_chain.specs.declared.log_faults.LogFault.TheVariants as log_
use Rattle.desk_shops.specs.declared.text_faults.TextFault.{TextFault}
use Rattle.desk_shops.specs.declared.text_faults.TextFault.TheVariants as text_
use Rattle.pushes.specs.declared.pushed.Push.{Push}
use Rattle.desk_turns.specs.Histories.{History}
use Rattle.desk_turns.specs.Seats.{Sitting}
use Rattle.pushes.specs.Steps.{DeskStep}
use Rattle.pushes.specs.declared.replies.Reply.{Reply}
use Rattle.pushes.specs.declared.replies.Reply.TheVariants as reply_
use Rattle.desk_turns.specs.Laws.{IsToldReply}
use Rattle.desk_turns.specs.States.{Desk, is_fault}
use Rattle.desk_turns.specs.Calls.{IsAnswered}
use Rattle.desk_turns.specs.Legal.{last, rows}
use Rattle.desk_turns.specs.Standing.{IsHeld, IsSettled, StandsFor}
use Rattle.desk_shops.specs.Texts.{IsDamagedFirst, IsTextOf, IsTooLarge, largest_text}
use Rattle.desk_shops.specs.Calls.{Replies}
use Rattle.desk_shops.specs.declared.shops.Shop.{Shop}
use Rattle.desk_shops.specs.Standing.{IsVerdictOf, Stands}
use Rattle.desk_shops.specs.declared.judged.Judged.{Judged}
use Rattle.desk_shops.specs.declared.judged.Judged.TheVariants.{Verdict, LogBroken}

-- the push is done
abbrev pub done_reply : Reply → Bool
done_reply (reply_.Done number id) = true
done_reply (reply_.Already number) = false
done_reply (reply_.Stale number id) = false
done_reply (reply_.Malformed at) = false
done_reply (reply_.Incomplete id) = false
done_reply (reply_.TooLarge length) = false
done_reply (reply_.Misnumbered number expected) = false
done_reply (reply_.Moved found expected) = false
done_reply reply_.Fault = false
done_reply reply_.Memory = false

-- where the store tells what it holds, the verdict is by all entries of the history, and no log is broken
abbrev pub Judges : {R : Type 0} → keeper.Ghosts R → R → History → List ℕ → Judged → Type 0
Judges k store h name (Verdict verdict) = (r : Repository) → k.content store ≡ Some r → IsVerdictOf h name verdict
Judges k store h name (LogBroken id) = (r : Repository) → k.content store ≡ Some r → ⊥

-- what a log that is broken, or was not read, comes to
abbrev pub broken_of : LogFault → Result Judged KeeperFault
broken_of (log_.Broken id) = Ok (LogBroken id)
broken_of log_.Failed = Err keeper_.Failed
broken_of log_.Memory = Err keeper_.Memory

-- the reply where there is no text
abbrev pub reply_of_text : TextFault → Reply
reply_of_text (text_.Damaged id) = reply_.Incomplete id
reply_of_text text_.TooLarge = reply_.TooLarge largest_text
reply_of_text text_.KeeperFailed = reply_.Fault
reply_of_text text_.Memory = reply_.Memory

-- the text of the repository, or why there is none
abbrev pub IsStreamOf : Repository → Result (List ℕ) Reply → Type 0
IsStreamOf r (Ok text) = IsTextOf r (Ok text)
IsStreamOf r (Err (reply_.Done number id)) = ⊥
IsStreamOf r (Err (reply_.Already number)) = ⊥
IsStreamOf r (Err (reply_.Stale number id)) = ⊥
IsStreamOf r (Err (reply_.Malformed at)) = ⊥
IsStreamOf r (Err (reply_.Incomplete id)) = IsDamagedFirst r id
IsStreamOf r (Err (reply_.TooLarge length)) = (length ≡ largest_text) × IsTooLarge r
IsStreamOf r (Err (reply_.Misnumbered number expected)) = ⊥
IsStreamOf r (Err (reply_.Moved found expected)) = ⊥
IsStreamOf r (Err reply_.Fault) = Unit {0}
IsStreamOf r (Err reply_.Memory) = Unit {0}

-- where the store tells what it holds, that is the last repository of the history, and this is of it
abbrev pub StreamsOf : {R : Type 0} → keeper.Ghosts R → R → History → Result (List ℕ) Reply → Type 0
StreamsOf k store h result = (r : Repository) → k.content store ≡ Some r → (last h ≡ Some r) × IsStreamOf r result

-- where nothing is in doubt, what the store tells is the history's last repository
pub none_of : {A : Type 0} (o : Option A) → is_some o ≡ false → o ≡ None
none_of None clear = refl
none_of (Some x) clear = absurd (true≢false clear)

pub is_clear : {A : Type 0} (o : Option A) → o ≡ None → is_some o ≡ false
is_clear o clear = ap is_some clear

pub last_told : {R : Type 0} {k : keeper.Ghosts R} (store : R) (desk : Desk) (h : History) → StandsFor k store desk h
    → is_some desk.doubt ≡ false → Stays (last h) (k.content store)
last_told {k = k} store desk h is clear =
    let settled : IsSettled k store h = subst (IsHeld k store h) (none_of desk.doubt clear) is.held in
    settled.held

-- ---- what holds of it

module _ {R : Type 0} (k : keeper.Ghosts R) where
  abbrev pub stands_in : Shop R → History → Type 0
  stands_in shop h = Stands k shop.keeper shop.state h

  abbrev pub told_in : Shop R → Option Repository
  told_in shop = k.content shop.keeper

  abbrev pub answers_in : Shop R → History → Push → Reply → Type 0
  answers_in shop h push reply = Replies k shop.keeper h push reply

  -- a push and its reply are the desk's relation between two histories, at their rows and their last repositories
  pub record IsStepOf (h : History) (push : Push) (seat : ℕ) (reply : Reply) (after : History) : Type 0 where
    pub was : Repository
    pub now : Repository
    pub was_last : last h ≡ Some was
    pub now_last : last after ≡ Some now
    pub step : DeskStep (rows h) was push seat reply (rows after) now

  -- over stores that always tell what they hold, what a desk answers of a push that was read, a fault and want of
  -- memory aside, is the desk's relation between the history that was asked and what the seat has seen then
  abbrev pub PushIsStep : Type 0
  PushIsStep =
      ((store : R) → (r : Repository) × (k.content store ≡ Some r)) → (push : Push) (reply : Reply) (old new : Sitting)
      → (is : IsAnswered stands_in told_in answers_in done_reply is_fault (λ r. r) push reply old new)
      → IsToldReply reply → IsStepOf is.before push old.number reply new.seen
