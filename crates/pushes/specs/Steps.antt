-- One push at the desk: its reply, and what it makes of the log and of a repository.
use Rattle.std.specs.Prelude.{◌≡◌, ◌+◌, ◌++◌, ◌∷◌, ◌==◌, ℕ, Bool, true, false, not, List, [], Option, Some, None}
use Rattle.std.specs.Prelude.{if◌then◌else◌, length, map, unwrap_or}
use Rattle.std.specs.List.{filter}
use Rattle.std.specs.Str.{bytes_eq}
use Rattle.git_object.specs.Ids.{zeros}
use Rattle.git_object.specs.Names.{log_name}
use Rattle.git_object.specs.Objects.{Pair, pair_id}
use Rattle.git_object.specs.Repository.{Repository}
use Rattle.keeper_api.specs.Changes.{changed}
use Rattle.keeper_api.specs.declared.changes.Change.{Change}
use Rattle.keeper_api.specs.declared.changes.RefChange.{RefChange}
use Rattle.placed_items.specs.Places.{has_id, place_of}
use Rattle.rsl_chain.specs.declared.entries.Entry.{Entry}
use Rattle.rsl_chain.specs.declared.entries.EntryBody.{EntryBody}
use Rattle.rsl_chain.specs.declared.entries.EntryBody.TheVariants.{Reference, Annotation}
use Rattle.rsl_chain.specs.Chain.{last_of}
use Rattle.rsl_chain.specs.Logs.{IsLogOf}
use Rattle.pushes.specs.Pushes.{IsSpelled}
use Rattle.pushes.specs.declared.pushed.Push.{Push}
use Rattle.pushes.specs.Needing.{IsComplete, IsIncomplete, start_of}
use Rattle.pushes.specs.declared.replies.Reply.{Reply}
use Rattle.pushes.specs.declared.replies.Reply.TheVariants.{Already, Done, Fault, Incomplete, Malformed, Memory}
use Rattle.pushes.specs.declared.replies.Reply.TheVariants.{Misnumbered, Moved, Stale, TooLarge}
use Rattle.pushes.specs.declared.rows.Row.{Row}

abbrev pub row_id : Row → List ℕ
row_id row = row.id

abbrev pub ids_of : List Row → List (List ℕ)
ids_of log = map row_id log

abbrev pub tip_of : List Row → Option (List ℕ)
tip_of log = last_of (ids_of log)

-- some row has the id
abbrev pub has_row : List Row → List ℕ → Bool
has_row log id = has_id row_id log id

-- nobody put it there
abbrev pub by_nobody : List ℕ → Row
by_nobody id = record { id = id; seat = 0 }

-- ---- the cases that need no store

abbrev pub same_tip : Option (List ℕ) → Option (List ℕ) → Bool
same_tip (Some a) (Some b) = bytes_eq a b
same_tip (Some a) None = false
same_tip None (Some b) = false
same_tip None None = true

abbrev pub by_number : List Row → ℕ → Option Reply
by_number log number = if number == length log + 1 then None else Some (Misnumbered number (length log + 1))

abbrev pub by_parent : List Row → Entry → Option Reply
by_parent log entry = if same_tip entry.parent (tip_of log) then by_number log entry.number
    else Some (Stale (length log) (unwrap_or (tip_of log) zeros))

abbrev pub by_place : List Row → Entry → Option ℕ → Option Reply
by_place log entry (Some n) = Some (Already (n + 1))
by_place log entry None = by_parent log entry

-- the reply that the log alone gives, or none
abbrev pub early : List Row → Entry → Option Reply
early log entry = by_place log entry (place_of row_id log entry.id)

-- ---- the change of a push that is done

abbrev pub is_new : List Row → Pair → Bool
is_new log pair = not (has_row log (pair_id pair))

abbrev pub target_ref : List ℕ → Option (List ℕ)
target_ref target = if bytes_eq target zeros then None else Some target

abbrev pub entry_refs : EntryBody → List RefChange
entry_refs (Reference name target) = record { name = name; to = target_ref target } ∷ []
entry_refs (Annotation ids skip message) = []

-- the pushed objects whose ids are not in the log, the entry's reference, and the log's, which comes last
abbrev pub change_of : List Row → Push → Change
change_of log push = record {
  objects = filter (is_new log) push.objects;
  refs = entry_refs push.entry.body ++ record { name = log_name; to = Some push.entry.id } ∷ [];
}

-- ---- the step

-- the push is done at this repository
pub record IsTaken (log : List Row) (r : Repository) (push : Push) : Type 0 where
  pub fits : early log push.entry ≡ None
  pub complete : IsComplete push.objects r (start_of push.entry.body)

-- the reply to a push
abbrev pub Replies : List Row → Repository → Push → Reply → Type 0
Replies log r push (Done number id) = IsTaken log r push × (number ≡ length log + 1) × (id ≡ push.entry.id)
Replies log r push (Already number) = early log push.entry ≡ Some (Already number)
Replies log r push (Stale number id) = early log push.entry ≡ Some (Stale number id)
Replies log r push (Misnumbered number expected) = early log push.entry ≡ Some (Misnumbered number expected)
Replies log r push (Incomplete id) = (early log push.entry ≡ None)
    × IsIncomplete push.objects r (start_of push.entry.body) id
Replies log r push (Malformed at) = ⊥
Replies log r push (TooLarge length) = ⊥
Replies log r push (Moved found expected) = ⊥
Replies log r push Fault = ⊥
Replies log r push Memory = ⊥

-- what it makes of the log
abbrev pub log_after : List Row → Push → ℕ → Reply → List Row
log_after log push seat (Done number id) = log ++ record { id = push.entry.id; seat = seat } ∷ []
log_after log push seat (Already number) = log
log_after log push seat (Stale number id) = log
log_after log push seat (Misnumbered number expected) = log
log_after log push seat (Incomplete id) = log
log_after log push seat (Malformed at) = log
log_after log push seat (TooLarge length) = log
log_after log push seat (Moved found expected) = log
log_after log push seat Fault = log
log_after log push seat Memory = log

-- and of the repository
abbrev pub repository_after : List Row → Repository → Push → Reply → Repository
repository_after log r push (Done number id) = changed (change_of log push) r
repository_after log r push (Already number) = r
repository_after log r push (Stale number id) = r
repository_after log r push (Misnumbered number expected) = r
repository_after log r push (Incomplete id) = r
repository_after log r push (Malformed at) = r
repository_after log r push (TooLarge length) = r
repository_after log r push (Moved found expected) = r
repository_after log r push Fault = r
repository_after log r push Memory = r

-- the desk's relation
pub record DeskStep (log : List Row) (r : Repository) (push : Push) (seat : ℕ) (reply : Reply) (log' : List Row)
    (r' : Repository) : Type 0 where
  pub replies : Replies log r push reply
  pub log_is : log' ≡ log_after log push seat reply
  pub repository_is : r' ≡ repository_after log r push reply

-- a push has one reply
abbrev pub OneReply : Type 0
OneReply = (log : List Row) (r : Repository) (push : Push) (a b : Reply) → Replies log r push a
    → Replies log r push b → a ≡ b

-- the log of the repository that a push makes is the log with its entry
abbrev pub PushGrows : Type 0
PushGrows = (log : List Row) (r : Repository) (push : Push) → IsSpelled push → early log push.entry ≡ None
    → IsLogOf r (ids_of log) → IsLogOf (changed (change_of log push) r) (ids_of log ++ push.entry.id ∷ [])
