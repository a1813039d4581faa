-- Histories of a state behind a turn: what was so when the turn was made, and the members of its log.
use Rattle.std.specs.Prelude.{◌≡◌, ◌⊎◌, ◌==◌, ◌<◌, ◌^◌, ℕ, List, [], ◌∷◌, ◌++◌, length, Option, All}
use Rattle.std.specs.Prelude.{if◌then◌else◌, nat_lt, refl}
use Rattle.std.specs.Coded.{Coded, code_by, coded×, coded_ℕ, coded_list, coded_option}
use Rattle.std.specs.FinMap.{code}
use Rattle.octets.specs.BytesMap.{BytesMap}
use Rattle.git_object.specs.Objects.{Pair}
use Rattle.git_object.specs.Repository.{Repository}
use Rattle.git_object.specs.contracts.stored_objects.Object as object

-- what the store held, where it told it, how many entries its log had, and how many faults it had counted
pub record Opening : Type 0 where
  pub repository : Option Repository
  pub loaded : ℕ
  pub faults : ℕ

-- an entry of the log: the seat that added it, or 0 for none, and what the store then held and had counted
pub record Member : Type 0 where
  pub id : List ℕ
  pub seat : ℕ
  pub repository : Option Repository
  pub faults : ℕ

-- what a turn began with, and the members of its log, oldest first
pub record History : Type 0 where
  pub opening : Opening
  pub members : List Member

abbrev pub count : History → ℕ
count history = length history.members

-- the history with these members more
abbrev pub with_members : History → List Member → History
with_members history more = record { opening = history.opening; members = history.members ++ more }

abbrev pub with_member : History → Member → History
with_member history member = with_members history (member ∷ [])

-- the first history begins the second, which has some more members at its end, or none
pub record Begins (front whole : History) : Type 0 where
  pub rest : List Member
  pub is : whole ≡ with_members front rest

-- the ids of the members that a seat added, in order
abbrev pub tagged : ℕ → List Member → List (List ℕ)
tagged seat [] = []
tagged seat (m ∷ ms) = (if m.seat == seat then m.id ∷ tagged seat ms else tagged seat ms)

-- a member that this seat may add: its own, or one of no seat
abbrev pub IsTaggedFor : ℕ → Member → Type 0
IsTaggedFor seat member = (member.seat ≡ seat) ⊎ (member.seat ≡ 0)

-- a history that a turn may begin with: no seat has added anything, and there is room for more
abbrev pub IsAtStart : History → Type 0
IsAtStart history = (count history < 2 ^ 62) × All (λ m. m.seat ≡ 0) history.members

-- the first of two histories, or the second where that is longer
abbrev pub longer : History → History → History
longer a b = (if nat_lt (count a) (count b) then b else a)

-- A repository is told apart as the pair of its maps, and the others as their fields.
abbrev pub repository_coded : Coded Repository
repository_coded =
    code_by (BytesMap Pair × BytesMap (List ℕ))
    (coded× (code (coded_list coded_ℕ) object.the_row.coded) (code (coded_list coded_ℕ) (coded_list coded_ℕ)))
    (λ r. (r.objects, r.refs)) (λ p. record { objects = p.0; refs = p.1 }) (λ _. refl)

abbrev pub opening_coded : Coded Opening
opening_coded =
    code_by (Option Repository × (ℕ × ℕ)) (coded× (coded_option repository_coded) (coded× coded_ℕ coded_ℕ))
    (λ o. (o.repository, (o.loaded, o.faults)))
    (λ p. record { repository = p.0; loaded = p.1.0; faults = p.1.1 }) (λ _. refl)

abbrev pub member_coded : Coded Member
member_coded =
    code_by (List ℕ × (ℕ × (Option Repository × ℕ)))
    (coded× (coded_list coded_ℕ) (coded× coded_ℕ (coded× (coded_option repository_coded) coded_ℕ)))
    (λ m. (m.id, (m.seat, (m.repository, m.faults))))
    (λ p. record { id = p.0; seat = p.1.0; repository = p.1.1.0; faults = p.1.1.1 }) (λ _. refl)

abbrev pub history_coded : Coded History
history_coded =
    code_by (Opening × List Member) (coded× opening_coded (coded_list member_coded))
    (λ h. (h.opening, h.members)) (λ p. record { opening = p.0; members = p.1 }) (λ _. refl)
