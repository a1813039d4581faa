-- What each call leaves of what a desk's log and its store stand for.
use Rattle.std.specs.Prelude.{◌≡◌, ◌≢◌, ℕ, true, List, Some, None, All, length}
use Rattle.octets.specs.Causes.{HasCause}
use Rattle.git_object.specs.Repository.{Repository}
use Rattle.keeper_api.specs.declared.keepers.Keeper as keeper
use Rattle.pushes.specs.Pushes.{IsSpelled}
use Rattle.pushes.specs.declared.pushed.Push.{Push}
use Rattle.desk_turns.specs.Histories.{History, Member, count, with_member}
use Rattle.pushes.specs.declared.replies.Reply.{Reply}
use Rattle.pushes.specs.declared.replies.Reply.TheVariants as reply_
use Rattle.desk_turns.specs.Settling.{Settles, is_unsettled, settled_as}
use Rattle.desk_turns.specs.States.{Desk, IsLoaded, Steps, answered, is_fault}
use Rattle.desk_turns.specs.declared.settled.Settled.{Settled}
use Rattle.desk_turns.specs.declared.settled.Settled.TheVariants as settled_
use Rattle.desk_turns.specs.Standing.{StandsFor}

-- the history has one member more, of this id and seat
pub record HasMore {R : Type 0} (keeper_of : keeper.Ghosts R) (store : R) (desk : Desk) (h : History) (id : List ℕ)
    (seat : ℕ) : Type 0 where
  pub member : Member
  pub id_is : member.id ≡ id
  pub seat_is : member.seat ≡ seat
  pub stands : StandsFor keeper_of store desk (with_member h member)

-- after a step the two stand for the history, with one member more exactly where the push is done
abbrev pub StandsAfter : {R : Type 0} → keeper.Ghosts R → R → Desk → History → Push → ℕ → Reply → Type 0
StandsAfter k store desk h push seat (reply_.Done number id) = HasMore k store desk h push.entry.id seat
StandsAfter k store desk h push seat (reply_.Already number) = StandsFor k store desk h
StandsAfter k store desk h push seat (reply_.Stale number id) = StandsFor k store desk h
StandsAfter k store desk h push seat (reply_.Malformed at) = StandsFor k store desk h
StandsAfter k store desk h push seat (reply_.Incomplete id) = StandsFor k store desk h
StandsAfter k store desk h push seat (reply_.TooLarge length) = StandsFor k store desk h
StandsAfter k store desk h push seat (reply_.Misnumbered number expected) = StandsFor k store desk h
StandsAfter k store desk h push seat (reply_.Moved found expected) = StandsFor k store desk h
StandsAfter k store desk h push seat reply_.Fault = StandsFor k store desk h
StandsAfter k store desk h push seat reply_.Memory = StandsFor k store desk h

abbrev pub StepKeeps : {R : Type 0} → keeper.Ghosts R → Type 0
StepKeeps {R} k =
    (old new : R) (was now : Desk) (push : Push) (seat : ℕ) (reply : Reply) (h : History) → StandsFor k old was h
    → was.doubt ≡ None → IsSpelled push → seat ≢ 0 → Steps k old new was now push seat reply
    → HasCause is_fault (k.faults old) (k.faults new) (answered reply) → StandsAfter k new now h push seat reply

-- after settling too, with one member more exactly where the entry in doubt was taken in; and over a store that tells
-- what it holds `Moved` never comes
abbrev pub StandsThen : {R : Type 0} → keeper.Ghosts R → R → Desk → History → Settled → Type 0
StandsThen k store desk h settled_.Clear = StandsFor k store desk h
StandsThen k store desk h (settled_.TookIn id) = HasMore k store desk h id 0
StandsThen k store desk h (settled_.Moved found expected) = StandsFor k store desk h × (k.content store ≡ None)
StandsThen k store desk h settled_.Fault = StandsFor k store desk h
StandsThen k store desk h settled_.Memory = StandsFor k store desk h

abbrev pub SettleKeeps : {R : Type 0} → keeper.Ghosts R → Type 0
SettleKeeps {R} k =
    (old new : R) (was now : Desk) (settled : Settled) (h : History) → StandsFor k old was h
    → Settles k old new was now settled → HasCause is_unsettled (k.faults old) (k.faults new) (settled_as settled)
    → StandsThen k new now h settled

-- a history with what was loaded and nothing more, for which the desk's log and the store stand
pub record IsLoadedFor {R : Type 0} (keeper_of : keeper.Ghosts R) (store : R) (desk : Desk) (h : History) : Type 0 where
  pub all_loaded : h.opening.loaded ≡ count h
  pub many : count h ≡ length desk.log
  pub nobody : All (λ m. m.seat ≡ 0) h.members
  pub stands : StandsFor keeper_of store desk h

-- a log that was just loaded stands for such a history, where a stop leaves what the store holds
abbrev pub LoadStands : {R : Type 0} → keeper.Ghosts R → Type 0
LoadStands {R} k =
    (store : R) (desk : Desk) → IsLoaded (k.content store) desk
    → (k.tells_left store ≡ true → (w : Repository) → k.content store ≡ Some w → (r : Repository) → k.left store r
    → r ≡ w)
    → (h : History) × IsLoadedFor k store desk h
