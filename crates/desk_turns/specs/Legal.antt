-- Legal histories of a desk: an opening, the entries that were loaded, and those since, each with what it made.
use Rattle.std.specs.Prelude.{◌≡◌, ◌<◌, ◌≤◌, ◌-◌, ◌^◌, ◌++◌, ◌∷◌, ◌⊎◌, ℕ, List, [], Option, Some, None, length, map}
use Rattle.octets.specs.Content.{Told}
use Rattle.git_object.specs.Repository.{Repository}
use Rattle.keeper_api.specs.Changes.{changed}
use Rattle.rsl_chain.specs.Logs.{IsLogOf}
use Rattle.pushes.specs.Pushes.{IsSpelled}
use Rattle.pushes.specs.declared.pushed.Push.{Push}
use Rattle.desk_turns.specs.Histories.{Begins, History, Member, Opening, count}
use Rattle.pushes.specs.Steps.{IsTaken, change_of, early}
use Rattle.pushes.specs.declared.rows.Row.{Row}

abbrev pub row_of : Member → Row
row_of m = record { id = m.id; seat = m.seat }

abbrev pub rows_of : List Member → List Row
rows_of members = map row_of members

-- the rows of the log
abbrev pub rows : History → List Row
rows h = rows_of h.members

-- the last repository, and the last count of faults
abbrev pub last_repository : Option Repository → List Member → Option Repository
last_repository first [] = first
last_repository first (m ∷ ms) = last_repository m.repository ms

abbrev pub last_faults : ℕ → List Member → ℕ
last_faults first [] = first
last_faults first (m ∷ ms) = last_faults m.faults ms

abbrev pub last : History → Option Repository
last h = last_repository h.opening.repository h.members

abbrev pub faults : History → ℕ
faults h = last_faults h.opening.faults h.members

-- an entry that was loaded: nobody put it there
abbrev pub loaded : Opening → List ℕ → Member
loaded o id = record { id = id; seat = 0; repository = o.repository; faults = o.faults }

-- the count has not fallen, and has risen or stands at its end
pub record Rose (before now : ℕ) : Type 0 where
  pub later : before ≤ now
  pub more : (before < now) ⊎ (now ≡ 2 ^ 64 - 1)

-- after these entries a push of this id was taken
pub record Took (log : List Row) (before : Option Repository) (id : List ℕ) (after : Option Repository) : Type 0 where
  pub push : Push
  pub spelled : IsSpelled push
  pub id_is : push.entry.id ≡ id
  pub fits : early log push.entry ≡ None
  pub step : Told (λ r r'. IsTaken log r push × (r' ≡ changed (change_of log push) r)) before after

-- a member that came after these: the count of faults does not fall, and rises where no seat put it there
pub record Follows (o : Opening) (front : List Member) (m : Member) : Type 0 where
  pub took : Took (rows_of front) (last_repository o.repository front) m.id m.repository
  pub counted : last_faults o.faults front ≤ m.faults
  pub nobody : m.seat ≡ 0 → Rose (last_faults o.faults front) m.faults

abbrev pub FollowFrom : Opening → List Member → List Member → Type 0
FollowFrom o front [] = Unit {0}
FollowFrom o front (m ∷ ms) = Follows o front m × FollowFrom o (front ++ m ∷ []) ms

-- the history is legal
pub record IsLegal (h : History) : Type 0 where
  pub ids : List (List ℕ)
  pub later : List Member
  pub members : h.members ≡ map (loaded h.opening) ids ++ later
  pub count : h.opening.loaded ≡ length ids
  pub log : (r : Repository) → h.opening.repository ≡ Some r → IsLogOf r ids
  pub follow : FollowFrom h.opening (map (loaded h.opening) ids) later

-- ---- what holds of it

-- the fronts of a legal history that have what was loaded are legal
abbrev pub LegalFronts : Type 0
LegalFronts =
    (whole front : History) → IsLegal whole → Begins front whole → whole.opening.loaded ≤ count front → IsLegal front
