-- When a history of a small shop is legal: each entry's repository is the one before with the log reference at its id.
use Rattle.std.specs.Prelude.{◌≡◌, ◌≤◌, ℕ, List, [], ◌∷◌, map, Option, Some}
use Rattle.octets.specs.Content.{Told}
use Rattle.git_object.specs.Names.{log_name}
use Rattle.git_object.specs.Repository.{Repository}
use Rattle.keeper_api.specs.Changes.{changed}
use Rattle.keeper_api.specs.declared.changes.Change.{Change}
use Rattle.desk_turns.specs.Histories.{History, Member}

-- the second repository is the first after one change, which puts the log reference at the id
pub record IsPut (id : List ℕ) (was now : Repository) : Type 0 where
  pub change : Change
  pub refs : change.refs ≡ record { name = log_name; to = Some id } ∷ []
  pub is : now ≡ changed change was

-- the repository of the last member, or the one before where there is none
abbrev pub last_from : Option Repository → List Member → Option Repository
last_from before [] = before
last_from before (m ∷ ms) = last_from m.repository ms

-- the faults of the last member, or those before where there is none
abbrev pub faults_from : ℕ → List Member → ℕ
faults_from before [] = before
faults_from before (m ∷ ms) = faults_from m.faults ms

-- the faults never fall, and where repositories are told each is the one before with the member's id put
abbrev pub Steps : Option Repository → ℕ → List Member → Type 0
Steps repository faults [] = Unit {0}
Steps repository faults (m ∷ ms) =
    (faults ≤ m.faults) × Told (IsPut m.id) repository m.repository × Steps m.repository m.faults ms

abbrev pub last_repository : History → Option Repository
last_repository h = last_from h.opening.repository h.members

abbrev pub last_faults : History → ℕ
last_faults h = faults_from h.opening.faults h.members

abbrev pub Legal : History → Type 0
Legal h = Steps h.opening.repository h.opening.faults h.members

-- the ids of the members, each with its seat
abbrev pub marks : List Member → List (List ℕ × ℕ)
marks = map (λ m. (m.id, m.seat))
