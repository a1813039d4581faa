-- What each call of a shop leaves of the history for which it stands, and what it answers of that history.
use Rattle.std.specs.Prelude.{◌≡◌, ◌+◌, ◌<◌, ◌≤◌, ℕ, true, List, Some, None}
use Rattle.octets.specs.Content.{Stays, Told}
use Rattle.git_object.specs.Repository.{Repository}
use Rattle.keeper_api.specs.Changes.{changed}
use Rattle.keeper_api.specs.declared.keepers.Keeper as keeper
use Rattle.pushes.specs.declared.pushed.Push.{Push}
use Rattle.desk_turns.specs.Histories.{History, IsAtStart, Member, count, with_member}
use Rattle.pushes.specs.Steps.{IsTaken, change_of, early}
use Rattle.pushes.specs.declared.replies.Reply.{Reply}
use Rattle.pushes.specs.declared.replies.Reply.TheVariants as reply_
use Rattle.desk_turns.specs.States.{Refuses}
use Rattle.desk_turns.specs.declared.settled.Settled.{Settled}
use Rattle.desk_turns.specs.declared.settled.Settled.TheVariants as settled_
use Rattle.desk_core.specs.declared.desk_state.DeskState.{DeskState}
use Rattle.desk_turns.specs.Legal.{last, rows}
use Rattle.desk_shops.specs.Standing.{Stands}

module _ {R : Type 0} (keeper_of : keeper.Ghosts R) where
  -- of the store a stop leaves what it holds, where that is told
  abbrev pub IsLeftAlone : R → Type 0
  IsLeftAlone store =
      keeper_of.tells_left store ≡ true → (w : Repository) → keeper_of.content store ≡ Some w
      → (r : Repository) → keeper_of.left store r → r ≡ w

  module _ (store : R) (state : DeskState) (h : History) where
    -- with the log that was loaded, and nothing more
    pub record Opens : Type 0 where
      pub stands : Stands keeper_of store state h
      pub all_loaded : h.opening.loaded ≡ count h
      pub few : count h ≤ 1000000
      pub at_start : IsAtStart h

    -- with one member more, of this id and seat
    pub record AddsOne (id : List ℕ) (seat : ℕ) : Type 0 where
      pub member : Member
      pub id_is : member.id ≡ id
      pub seat_is : member.seat ≡ seat
      pub few : count h < 1000000
      pub stands : Stands keeper_of store state (with_member h member)

    -- after a push: with one member more exactly where it is done
    abbrev pub StandsAfterPush : Push → ℕ → Reply → Type 0
    StandsAfterPush push seat (reply_.Done number id) = AddsOne push.entry.id seat
    StandsAfterPush push seat (reply_.Already number) = Stands keeper_of store state h
    StandsAfterPush push seat (reply_.Stale number id) = Stands keeper_of store state h
    StandsAfterPush push seat (reply_.Malformed at) = ⊥
    StandsAfterPush push seat (reply_.Incomplete id) = Stands keeper_of store state h
    StandsAfterPush push seat (reply_.TooLarge length) = ⊥
    StandsAfterPush push seat (reply_.Misnumbered number expected) = Stands keeper_of store state h
    StandsAfterPush push seat (reply_.Moved found expected) = ⊥
    StandsAfterPush push seat reply_.Fault = Stands keeper_of store state h
    StandsAfterPush push seat reply_.Memory = Stands keeper_of store state h

    -- after settling: with one member more, of nobody, exactly where the entry in doubt is taken in; and over a store
    -- that tells what it holds `Moved` never comes
    abbrev pub StandsAfterSettling : Settled → Type 0
    StandsAfterSettling settled_.Clear = Stands keeper_of store state h × (state.log.doubt ≡ None)
    StandsAfterSettling (settled_.TookIn id) = AddsOne id 0 × (state.log.doubt ≡ None)
    StandsAfterSettling (settled_.Moved found expected) = Stands keeper_of store state h
        × (keeper_of.content store ≡ None)
    StandsAfterSettling settled_.Fault = Stands keeper_of store state h
    StandsAfterSettling settled_.Memory = Stands keeper_of store state h

  -- the push is the next entry of the history, and where the store tells what it holds now, it told the history's last
  -- repository before, where nothing was missing, and this is what the push makes of it
  pub record RepliesDone (store : R) (h : History) (push : Push) (number : ℕ) (id : List ℕ) : Type 0 where
    pub number_is : number ≡ count h + 1
    pub id_is : id ≡ push.entry.id
    pub fits : early (rows h) push.entry ≡ None
    pub made : Told (λ r r'. IsTaken (rows h) r push × (r' ≡ changed (change_of (rows h) push) r)) (last h)
        (keeper_of.content store)

  -- the push is refused by the history's entries and, where the store tells what it holds, by its last repository
  pub record RepliesRefused (store : R) (h : History) (push : Push) (reply : Reply) : Type 0 where
    pub why : Refuses (keeper_of.content store) (rows h) push reply
    pub last_is : Stays (last h) (keeper_of.content store)

  -- what each reply says of the history before it
  abbrev pub Replies : R → History → Push → Reply → Type 0
  Replies store h push (reply_.Done number id) = RepliesDone store h push number id
  Replies store h push (reply_.Already number) = RepliesRefused store h push (reply_.Already number)
  Replies store h push (reply_.Stale number id) = RepliesRefused store h push (reply_.Stale number id)
  Replies store h push (reply_.Malformed at) = ⊥
  Replies store h push (reply_.Incomplete id) = RepliesRefused store h push (reply_.Incomplete id)
  Replies store h push (reply_.TooLarge length) = ⊥
  Replies store h push (reply_.Misnumbered number expected) =
      RepliesRefused store h push (reply_.Misnumbered number expected)
  Replies store h push (reply_.Moved found expected) = ⊥
  Replies store h push reply_.Fault = Unit {0}
  Replies store h push reply_.Memory = Unit {0}
