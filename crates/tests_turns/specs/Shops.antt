-- What a shop stands for, and what one step of it answers and adds.
use Rattle.std.specs.Prelude.{◌≡◌, ◌≤◌, ◌<◌, ◌+◌, ◌==◌, ◌^◌, ℕ, Bool, true, false, if◌then◌else◌, List, [], ◌∷◌, map}
use Rattle.std.specs.Prelude.{Option, Some, None, Result, Ok, Err}
use Rattle.octets.specs.Content.{Stays}
use Rattle.git_object.specs.Repository.{Repository}
use Rattle.desk_turns.specs.Histories.{History, Member, with_member, count}
use Rattle.tests_turns.specs.Legal.{Legal, last_repository, last_faults, marks}
use Rattle.tests_turns.specs.declared.shops.Logged.{Logged}
use Rattle.tests_turns.specs.declared.shops.Shop.{Shop}
use Rattle.tests_turns.specs.declared.shops.Refusal.{Refusal}
use Rattle.tests_turns.specs.declared.shops.Refusal.TheVariants.{InDoubt, Stale, Fault, Memory}

abbrev pub logged : List Logged → List (List ℕ × ℕ)
logged = map (λ l. (l.id, l.seat))

-- whether an entry that is to come after the one of this number, or after any, may come after so many
abbrev pub follows : Option ℕ → ℕ → Bool
follows None length = true
follows (Some number) length = number == length

-- why the shop refuses before it asks its store, if it does
abbrev pub refused_first : Bool → ℕ → Option ℕ → Option Refusal
refused_first false length after = Some InDoubt
refused_first true length after = (if follows after length then None else Some (Stale length))

-- whether the answer is one that comes once the store was to be asked
abbrev pub is_of_store : Result ℕ Refusal → Bool
is_of_store (Ok number) = true
is_of_store (Err InDoubt) = false
is_of_store (Err (Stale number)) = false
is_of_store (Err Fault) = true
is_of_store (Err Memory) = true

-- the answer is the refusal that comes first, exactly where there is one
abbrev pub Answers : Option Refusal → Result ℕ Refusal → Type 0
Answers (Some refusal) result = result ≡ Err refusal
Answers None result = is_of_store result ≡ true

abbrev pub shop_failed : Refusal → Bool
shop_failed Fault = true
shop_failed refusal = false

module _ {R : Type 0} (content : R → Option Repository) (faults : R → ℕ) where
  -- the log's ids and seats are the history's; while nothing is in doubt, the store is the last repository
  pub record Stands (shop : Shop R) (h : History) : Type 0 where
    pub logs : marks h.members ≡ logged shop.log.items
    pub store : shop.clean ≡ true → Stays (last_repository h) (content shop.keeper)
    pub counted : last_faults h ≤ faults shop.keeper
    pub is_legal : Legal h

  -- the shop stands for one member more, which this seat added
  pub record AddsOne (h : History) (seat : ℕ) (id : List ℕ) (new : Shop R) (number : ℕ) : Type 0 where
    pub member : Member
    pub stands : Stands new (with_member h member)
    pub by : member.seat ≡ seat
    pub is : member.id ≡ id
    pub number_is : number ≡ count h + 1
    pub small : number < 2 ^ 61
