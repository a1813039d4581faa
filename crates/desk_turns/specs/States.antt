-- What the calls of a desk's log make of it and of a store.
use Rattle.std.specs.Prelude.{◌≡◌, ◌+◌, ◌-◌, ◌++◌, ◌∷◌, ◌==◌, ◌⊎◌, ℕ, Bool, true, false, List, [], Option, Some, None}
use Rattle.std.specs.Prelude.{Result, Err, if◌then◌else◌, length, map, slice_get}
use Rattle.std.specs.Option.{option_map}
use Rattle.octets.specs.Content.{Told}
use Rattle.git_object.specs.Repository.{Repository}
use Rattle.keeper_api.specs.Changes.{changed}
use Rattle.keeper_api.specs.Keepers.{IsChanged}
use Rattle.keeper_api.specs.Undisturbed.{Undisturbed}
use Rattle.keeper_api.specs.declared.keepers.Keeper as keeper
use Rattle.rsl_chain.specs.Logs.{IsLogOf}
use Rattle.pushes.specs.declared.pushed.Push.{Push}
use Rattle.pushes.specs.Needing.{IsComplete, IsIncomplete, IsNeeded, start_of}
use Rattle.pushes.specs.Steps.{DeskStep, IsTaken, by_nobody, change_of, early, row_id}
use Rattle.pushes.specs.declared.replies.Reply.{Reply}
use Rattle.pushes.specs.declared.replies.Reply.TheVariants.{Already, Done, Fault, Incomplete, Malformed, Memory}
use Rattle.pushes.specs.declared.replies.Reply.TheVariants.{Misnumbered, Moved, Stale, TooLarge}
use Rattle.pushes.specs.declared.rows.Row.{Row}

-- the log, and the entry of which it is not known whether the store has it
pub record Desk : Type 0 where
  pub log : List Row
  pub doubt : Option (List ℕ)

abbrev pub is_fault : Reply → Bool
is_fault (Done number id) = false
is_fault (Already number) = false
is_fault (Stale number id) = false
is_fault (Malformed at) = false
is_fault (Incomplete id) = false
is_fault (TooLarge length) = false
is_fault (Misnumbered number expected) = false
is_fault (Moved found expected) = false
is_fault Fault = true
is_fault Memory = false

-- a reply as an answer that counts a fault or not
abbrev pub answered : Reply → Result (Unit {0}) Reply
answered reply = Err reply

-- ---- loading

-- the ids of the log, all of nobody
pub record IsLoaded (content : Option Repository) (desk : Desk) : Type 0 where
  pub ids : List (List ℕ)
  pub is : desk ≡ record { log = map by_nobody ids; doubt = None }
  pub log : (r : Repository) → content ≡ Some r → IsLogOf r ids

-- the id at a place of the log, counted from 1
abbrev pub id_at : List Row → ℕ → Option (List ℕ)
id_at log number = if number == 0 then None else option_map row_id (slice_get log (number - 1))

-- ---- a push that is not taken

-- why a push is refused, where the store tells this
abbrev pub Refuses : Option Repository → List Row → Push → Reply → Type 0
Refuses content log push (Done number id) = ⊥
Refuses content log push (Already number) = early log push.entry ≡ Some (Already number)
Refuses content log push (Stale number id) = early log push.entry ≡ Some (Stale number id)
Refuses content log push (Misnumbered number expected) = early log push.entry ≡ Some (Misnumbered number expected)
Refuses content log push (Incomplete id) =
    (early log push.entry ≡ None)
    × IsNeeded push.objects (start_of push.entry.body) id
    × ((r : Repository) → content ≡ Some r → IsIncomplete push.objects r (start_of push.entry.body) id)
Refuses content log push (Malformed at) = ⊥
Refuses content log push (TooLarge length) = ⊥
Refuses content log push (Moved found expected) = ⊥
Refuses content log push Fault = Unit {0}
Refuses content log push Memory = Unit {0}

-- the push would be taken
pub record Fits (content : Option Repository) (log : List Row) (push : Push) : Type 0 where
  pub fits : early log push.entry ≡ None
  pub complete : (r : Repository) → content ≡ Some r → IsComplete push.objects r (start_of push.entry.body)

-- ---- a push that is taken

-- the desk after an entry of a seat
abbrev pub with_row : Desk → List ℕ → ℕ → Desk
with_row desk id seat = record { log = desk.log ++ record { id = id; seat = seat } ∷ []; doubt = None }

-- the desk with an entry in doubt
abbrev pub in_doubt : Desk → List ℕ → Desk
in_doubt desk id = record { log = desk.log; doubt = Some id }

module _ {R : Type 0} (keeper_of : keeper.Ghosts R) (old new : R) (was now : Desk) (push : Push) where
  -- nothing changed
  pub record IsAnswered (reply : Reply) : Type 0 where
    pub state : now ≡ was
    pub same : Undisturbed keeper_of old new
    pub why : Refuses (keeper_of.content new) was.log push reply

  -- the push is done: what the store tells now is the desk's step of what it told, and a stop leaves that alone
  pub record IsDone (seat number : ℕ) (id : List ℕ) : Type 0 where
    pub state : now ≡ with_row was push.entry.id seat
    pub fits : early was.log push.entry ≡ None
    pub number_is : number ≡ length was.log + 1
    pub id_is : id ≡ push.entry.id
    pub step : Told (λ r r'. DeskStep was.log r push seat (Done number id) now.log r')
        (keeper_of.content old) (keeper_of.content new)
    pub tells : keeper_of.tells_left new ≡ true → keeper_of.tells_left old ≡ true
    pub stop : keeper_of.tells_left new ≡ true → (w : Repository) → keeper_of.content new ≡ Some w
        → (r : Repository) → keeper_of.left new r → r ≡ w

  -- the commit failed: the store holds what it held or what the push makes of it, and a stop leaves no more than it
  -- could, and that
  pub record IsInDoubt : Type 0 where
    pub state : now ≡ in_doubt was push.entry.id
    pub fits : early was.log push.entry ≡ None
    pub held : Told (λ r r'. IsTaken was.log r push × ((r' ≡ r) ⊎ (r' ≡ changed (change_of was.log push) r)))
        (keeper_of.content old) (keeper_of.content new)
    pub tells : keeper_of.tells_left new ≡ true → keeper_of.tells_left old ≡ true
    pub stop : keeper_of.tells_left new ≡ true → (r : Repository) → keeper_of.left new r
        → keeper_of.left old r ⊎ IsChanged (change_of was.log push) (keeper_of.content old) r

  -- what each reply of a step means
  abbrev pub Steps : ℕ → Reply → Type 0
  Steps seat (Done number id) = IsDone seat number id
  Steps seat (Already number) = IsAnswered (Already number)
  Steps seat (Stale number id) = IsAnswered (Stale number id)
  Steps seat (Malformed at) = ⊥
  Steps seat (Incomplete id) = IsAnswered (Incomplete id)
  Steps seat (TooLarge length) = ⊥
  Steps seat (Misnumbered number expected) = IsAnswered (Misnumbered number expected)
  Steps seat (Moved found expected) = ⊥
  Steps seat Fault = IsAnswered Fault ⊎ IsInDoubt
  Steps seat Memory = IsAnswered Memory
