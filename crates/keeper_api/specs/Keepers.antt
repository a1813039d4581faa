-- What the calls of a keeper do to what it holds and to what a stop may leave.
use Rattle.std.specs.Prelude.{◌≡◌, ◌⊎◌, ◌<◌, ◌-◌, ◌^◌, ℕ, Bool, true, IsSome, Option, Some, Result, Ok, Err}
use Rattle.octets.specs.Content.{Stays}
use Rattle.git_object.specs.Repository.{Repository}
use Rattle.keeper_api.specs.Changes.{changed}
use Rattle.keeper_api.specs.declared.changes.Change.{Change}
use Rattle.keeper_api.specs.declared.keeper_faults.KeeperFault.{KeeperFault}
use Rattle.keeper_api.specs.declared.keeper_faults.KeeperFault.TheVariants.{Failed, Memory}

-- a call that makes no commit: the same is held, where the keeper tells it a stop may leave no more than it could leave
-- before, and of what the keeper came it comes still
pub record AsBefore {S : Type 0} (before after : Option Repository) (told told_now : Bool)
    (past now : Repository → Type 0) (came comes_now : S → Type 0) : Type 0 where
  pub content : Stays before after
  pub tells : told_now ≡ true → told ≡ true
  pub left : told_now ≡ true → (r : Repository) → now r → past r
  pub comes : (first : S) → came first → comes_now first

-- what told goes on telling, where the medium is clean, no fault was counted and the count is not at its end; a medium
-- that is clean was clean before
pub record TellsOn (before after : Option Repository) (told told_now clean clean_now : Bool) (count count_now : ℕ)
    : Type 0 where
  pub was_clean : clean_now ≡ true → clean ≡ true
  pub content : clean_now ≡ true → count < 2 ^ 64 - 1 → count_now ≡ count → IsSome before → IsSome after
  pub left : clean_now ≡ true → count < 2 ^ 64 - 1 → count_now ≡ count → told ≡ true → told_now ≡ true

-- what tells the same tells on
pub same_tells : (content : Option Repository) (told clean : Bool) (count count_now : ℕ)
    → TellsOn content content told told clean clean count count_now
same_tells content told clean count count_now = record {
  was_clean = λ now. now;
  content = λ now before_end same some. some;
  left = λ now before_end same told. told;
}

-- what a commit makes of the repository that was held
abbrev pub Commits : Change → {T : Type 0} → Result T KeeperFault → Repository → Repository → Type 0
Commits change (Ok _) was now = now ≡ changed change was
Commits change (Err Failed) was now = (now ≡ was) ⊎ (now ≡ changed change was)
Commits change (Err Memory) was now = now ≡ was

-- the repository is what the change makes of the one that was told
abbrev pub IsChanged : Change → Option Repository → Repository → Type 0
IsChanged change before r = (was : Repository) × (before ≡ Some was) × (r ≡ changed change was)

-- what a stop may leave after a commit: the new repository alone; after a fault at most what it could leave before, and
-- the new one; after want of memory at most what it could leave before
abbrev pub LeavesBy : Change → {T : Type 0} → Result T KeeperFault → Option Repository → (Repository → Type 0)
    → (Repository → Type 0) → Type 0
LeavesBy change (Ok _) before past now = (was : Repository) → before ≡ Some was → (r : Repository) → now r
    → r ≡ changed change was
LeavesBy change (Err Failed) before past now = (r : Repository) → now r → past r ⊎ IsChanged change before r
LeavesBy change (Err Memory) before past now = (r : Repository) → now r → past r

-- a commit, where the keeper tells what a stop may leave
pub record Leaves (change : Change) {T : Type 0} (result : Result T KeeperFault) (before : Option Repository)
    (told told_now : Bool) (past now : Repository → Type 0) : Type 0 where
  pub tells : told_now ≡ true → told ≡ true
  pub left : told_now ≡ true → LeavesBy change result before past now
