-- Pushes that are made again, commits that fail, and stops: what stays.
use Rattle.std.specs.Prelude.{◌≡◌, ◌⊎◌, ◌++◌, ◌∷◌, ◌+◌, [], ℕ, true, false, List, Option, Some, None, map}
use Rattle.std.specs.List.{AllByRecursion}
use Rattle.git_object.specs.Repository.{Repository}
use Rattle.keeper_api.specs.Changes.{changed}
use Rattle.rsl_chain.specs.Logs.{IsLogOf}
use Rattle.pushes.specs.Pushes.{IsSpelled}
use Rattle.pushes.specs.declared.pushed.Push.{Push}
use Rattle.pushes.specs.Needing.{has}
use Rattle.placed_items.specs.Places.{place_of}
use Rattle.pushes.specs.Steps.{DeskStep, IsTaken, by_nobody, change_of, ids_of, row_id}
use Rattle.pushes.specs.declared.replies.Reply.{Reply}
use Rattle.pushes.specs.declared.replies.Reply.TheVariants.{Already, Done, Fault, Incomplete, Malformed, Memory}
use Rattle.pushes.specs.declared.replies.Reply.TheVariants.{Misnumbered, Moved, Stale, TooLarge}
use Rattle.pushes.specs.declared.rows.Row.{Row}

-- the log with its repository, the push in doubt, and the ids that were acknowledged
pub record Run : Type 0 where
  pub log : List Row
  pub repository : Repository
  pub doubt : Option Push
  pub acked : List (List ℕ)

pub data Event : Type 0 where
  -- a push and its reply
  pushed : Push → ℕ → Reply → Event
  -- a push whose commit failed
  failed : Push → Event
  -- the push in doubt is dropped, or taken in
  dropped : Event
  taken_in : Push → Event
  -- a stop that leaves this repository, whose log is then loaded
  stopped : Repository → List (List ℕ) → Event

-- what a reply acknowledges
abbrev pub acks : Reply → List (List ℕ)
acks (Done number id) = id ∷ []
acks (Already number) = []
acks (Stale number id) = []
acks (Malformed at) = []
acks (Incomplete id) = []
acks (TooLarge length) = []
acks (Misnumbered number expected) = []
acks (Moved found expected) = []
acks Fault = []
acks Memory = []

-- what a stop may leave
abbrev pub LeftBy : List Row → Repository → Option Push → Repository → Type 0
LeftBy log base None r = r ≡ base
LeftBy log base (Some push) r = (r ≡ base) ⊎ (r ≡ changed (change_of log push) base)

pub record IsPushed (a : Run) (push : Push) (seat : ℕ) (reply : Reply) (b : Run) : Type 0 where
  pub clear : a.doubt ≡ None
  pub spelled : IsSpelled push
  pub step : DeskStep a.log a.repository push seat reply b.log b.repository
  pub still : b.doubt ≡ None
  pub acked : b.acked ≡ a.acked ++ acks reply

pub record IsFailed (a : Run) (push : Push) (b : Run) : Type 0 where
  pub clear : a.doubt ≡ None
  pub spelled : IsSpelled push
  pub taken : IsTaken a.log a.repository push
  pub is : b ≡ record a { doubt = Some push }

pub record IsTakenIn (a : Run) (push : Push) (b : Run) : Type 0 where
  pub doubt : a.doubt ≡ Some push
  pub is : b ≡ record a {
    log = a.log ++ by_nobody push.entry.id ∷ [];
    repository = changed (change_of a.log push) a.repository;
    doubt = None;
  }

pub record IsStopped (a : Run) (r : Repository) (ids : List (List ℕ)) (b : Run) : Type 0 where
  pub left : LeftBy a.log a.repository a.doubt r
  pub log : IsLogOf r ids
  pub is : b ≡ record a { log = map by_nobody ids; repository = r; doubt = None }

abbrev pub Goes : Run → Event → Run → Type 0
Goes a (pushed push seat reply) b = IsPushed a push seat reply b
Goes a (failed push) b = IsFailed a push b
Goes a dropped b = b ≡ record a { doubt = None }
Goes a (taken_in push) b = IsTakenIn a push b
Goes a (stopped r ids) b = IsStopped a r ids b

abbrev pub Runs : Run → List Event → Run → Type 0
Runs a [] b = b ≡ a
Runs a (event ∷ events) c = (b : Run) × Goes a event b × Runs b events c

-- no id stands twice
abbrev pub AreApart : List (List ℕ) → Type 0
AreApart [] = Unit {0}
AreApart (id ∷ ids) = (has ids id ≡ false) × AreApart ids

abbrev pub DoubtFits : List Row → Repository → Option Push → Type 0
DoubtFits log r None = Unit {0}
DoubtFits log r (Some push) = IsSpelled push × IsTaken log r push

-- the log is the repository's, has each id once, and has each that was acknowledged
pub record IsSound (run : Run) : Type 0 where
  pub is_log : IsLogOf run.repository (ids_of run.log)
  pub once : AreApart (ids_of run.log)
  pub kept : AllByRecursion (λ (id : List ℕ). has (ids_of run.log) id ≡ true) run.acked
  pub doubt : DoubtFits run.log run.repository run.doubt

-- a push whose id is there is there already, at the place of the id counted from 1, and changes nothing
pub record IsAgain (run : Run) : Type 0 where
  pub again : (push : Push) (seat : ℕ) (reply : Reply) (log : List Row) (r : Repository)
      → has (ids_of run.log) push.entry.id ≡ true → DeskStep run.log run.repository push seat reply log r
      → (n : ℕ) × (place_of row_id run.log push.entry.id ≡ Some n) × (reply ≡ Already (n + 1)) × (log ≡ run.log)
      × (r ≡ run.repository)

abbrev pub RetryOnce : Type 0
RetryOnce = (a b : Run) (events : List Event) → IsSound a → Runs a events b → IsSound b × IsAgain b
