-- What is kept of the entries by which others are skipped and rescued, and the steps of keeping it.
use Rattle.std.specs.Prelude.{◌≡◌, ◌⊎◌, ◌&&◌, ◌<◌, ℕ, Bool, true, false, List, Option, Some, None}
use Rattle.std.specs.BTreeMap as tree
use Rattle.std.specs.BTreeMap.{BTreeMap}
use Rattle.std.specs.List.{list_any}
use Rattle.std.specs.Ordering.{nat_cmp}
use Rattle.rsl_chain.specs.Entries.{Taken}
use Rattle.rsl_chain.specs.declared.entries.EntryBody.{EntryBody}
use Rattle.rsl_chain.specs.declared.entries.EntryBody.TheVariants.{Reference}
use Rattle.recovery.specs.Lanes.{is_in}
use Rattle.judging.specs.Logs.{above, entry_at, has_id, is_entry_of, lane, pending, skipped}
use Rattle.judging.specs.Rules.{Rules}
use Rattle.judged_logs.specs.Firsts.{rescuer_of, skipper_of}
use Rattle.judged_logs.specs.declared.kept.ByWhom.{ByWhom}

-- a number is noted under another that has none, where it is hit
abbrev pub noted : Option ℕ → Bool → ℕ → Option ℕ
noted (Some a) hit by = Some a
noted None true by = Some by
noted None false by = None

-- a table with what was noted in it
abbrev pub IsNoted : (ℕ → Bool) → ℕ → BTreeMap ℕ ℕ → BTreeMap ℕ ℕ → Type 0
IsNoted hit by was now = (q : ℕ) → 0 < q → tree.get nat_cmp now q ≡ noted (tree.get nat_cmp was q) (hit q) by

-- the entry of the number is a reference's
abbrev pub HasOwn : List Taken → ℕ → Type 0
HasOwn log b = (0 < b) × (name : List ℕ) × (is_entry_of (entry_at log b) name ≡ true)

module _ {P F : Type 0} (rules : Rules P F) (log : List Taken) where
  -- it says of each entry of the log by which it is skipped and rescued
  pub record Knows (kept : ByWhom) : Type 0 where
    pub skipper : (i : ℕ) → 0 < i → tree.get nat_cmp kept.skippers i ≡ skipper_of rules log i
    pub rescuer : (b : ℕ) → 0 < b → tree.get nat_cmp kept.rescuers b ≡ rescuer_of rules log b

  -- the entry of the number has one of these ids, and is skipped
  abbrev pub is_skipped_among : List (List ℕ) → ℕ → Bool
  is_skipped_among ids i = list_any (λ id. has_id (entry_at log i) id) ids && skipped rules log i

  -- the entry of the number is a reference's that is neither authorised nor rescued
  abbrev pub IsPending : ℕ → Type 0
  IsPending b = (0 < b) × (name : List ℕ) × (is_entry_of (entry_at log b) name ≡ true)
      × (pending rules log b ≡ true)

  -- the number is added, where its entry is pending
  pub record IsAdded (number : ℕ) (was now : List ℕ) : Type 0 where
    pub keeps : (b : ℕ) → is_in b was ≡ true → is_in b now ≡ true
    pub adds : IsPending number → is_in number now ≡ true
    pub only : (b : ℕ) → is_in b now ≡ true → (is_in b was ≡ true) ⊎ IsPending b

  -- the numbers greater than one of those that are pending
  pub record ArePending (from : ℕ) (found : List ℕ) : Type 0 where
    pub all : (b : ℕ) → from < b → IsPending b → is_in b found ≡ true
    pub only : (b : ℕ) → is_in b found ≡ true → IsPending b

  -- those among which are all that an entry of this body may rescue, each pending
  pub record AreOpen (body : EntryBody) (open_numbers : List ℕ) : Type 0 where
    pub all : (name target : List ℕ) → body ≡ Reference name target → (b : ℕ)
        → is_in b (lane rules log name).pending ≡ true → above rules log name < b
        → is_in b open_numbers ≡ true
    pub only : (b : ℕ) → is_in b open_numbers ≡ true → IsPending b
