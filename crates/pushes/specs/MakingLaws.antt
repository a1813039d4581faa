-- What holds of pushes that are made.
use Rattle.std.specs.Prelude.{◌≡◌, ◌≢◌, ℕ, List, Some, None}
use Rattle.git_object.specs.Repository.{Repository, object_at}
use Rattle.rsl_chain.specs.Logs.{entry_at}
use Rattle.rsl_chain.specs.declared.entries.Entry.{Entry}
use Rattle.rsl_chain.specs.declared.entries.EntryBody.TheVariants.{Reference}
use Rattle.pushes.specs.Pushes.{IsPushText}
use Rattle.pushes.specs.declared.pushed.Push.{Push}
use Rattle.pushes.specs.Needing.{IsIncomplete, start_of}
use Rattle.pushes.specs.Going.{Go, IsValueAfter}
use Rattle.pushes.specs.Making.{IsMade, IsTooLarge, Lacks}
use Rattle.pushes.specs.Reached.{IsReached}

-- one list of ids at most goes with an entry
abbrev pub OneGo : Type 0
OneGo = (r : Repository) (before : List (List ℕ)) (id : List ℕ) (xs ys : List (List ℕ)) → Go r before id xs
    → Go r before id ys → xs ≡ ys

-- an entry has one push at most, or lacks one object first, or is too large, and never two of these
pub record OneMaking : Type 0 where
  pub one_text : (r : Repository) (before : List (List ℕ)) (id a b : List ℕ) → IsMade r before id a
      → IsMade r before id b → a ≡ b
  pub one_missing : (r : Repository) (before : List (List ℕ)) (id a b : List ℕ) → Lacks r before id a
      → Lacks r before id b → a ≡ b
  pub made_whole : (r : Repository) (before : List (List ℕ)) (id a b : List ℕ) → IsMade r before id a
      → Lacks r before id b → ⊥
  pub made_short : (r : Repository) (before : List (List ℕ)) (id a : List ℕ) → IsMade r before id a
      → IsTooLarge r before id → ⊥
  pub large_whole : (r : Repository) (before : List (List ℕ)) (id a : List ℕ) → Lacks r before id a
      → IsTooLarge r before id → ⊥

-- a desk has what is reached, through the objects of this repository, from the value that the entry's reference had
pub record HasBefore (r desk : Repository) (before : List (List ℕ)) (id : List ℕ) : Type 0 where
  pub each : (entry : Entry) (name target was q : List ℕ) → entry_at r id ≡ Some entry
      → entry.body ≡ Reference name target → IsValueAfter r name before was → IsReached r was q
      → object_at desk q ≢ None

-- such a desk lacks nothing that the push needs
abbrev pub NothingLacks : Type 0
NothingLacks = (r desk : Repository) (before : List (List ℕ)) (id text missing : List ℕ) (push : Push)
    → IsMade r before id text → IsPushText push text → HasBefore r desk before id
    → IsIncomplete push.objects desk (start_of push.entry.body) missing → ⊥
