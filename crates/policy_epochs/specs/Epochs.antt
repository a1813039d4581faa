-- The epochs of a log: the entries that bring a policy into force. Entries are numbered from 1.
use Rattle.std.specs.Prelude.{◌≡◌, ◌++◌, ℕ, suc, zero, Bool, false, List, [], ◌∷◌, Option, Some, None, Result, Ok, Err}
use Rattle.std.specs.Prelude.{is_none, nat_lt, option_and_then, unwrap_or}
use Rattle.std.specs.List.{filter}

-- the numbers from 1 to n
abbrev pub numbers : ℕ → List ℕ
numbers zero = []
numbers (suc n) = numbers n ++ suc n ∷ []

-- the last member of a list, which is the greatest of a rising one
abbrev pub last_of : List ℕ → Option ℕ
last_of [] = None
last_of (x ∷ xs) = Some (unwrap_or (last_of xs) x)

-- the members below a number
abbrev pub below : ℕ → List ℕ → List ℕ
below n members = filter (λ i. nat_lt i n) members

-- a policy that was found valid
abbrev pub valid : {P F : Type 0} → Option (Result P F) → Option P
valid None = None
valid (Some (Ok policy)) = Some policy
valid (Some (Err fault)) = None

-- What was found of entry k is `checked k`: None where it is not an entry for the policy, else its policy where that is
-- valid, else its fault. What keeps a valid policy from following the one in force, or from being the first, is
-- `succession`.
module _ {P F : Type 0} (checked : ℕ → Option (Result P F)) where
  -- the policy of the last of these entries
  abbrev pub policy_in : List ℕ → Option P
  policy_in members = option_and_then (λ k. valid (checked k)) (last_of members)

-- what keeps a policy entry from taking effect under the policy in force
abbrev pub fault_under : {P F : Type 0} → (Option P → P → Option F) → Option P → Result P F → Option F
fault_under succession current (Err fault) = Some fault
fault_under succession current (Ok policy) = succession current policy

-- whether an entry takes effect under the policy in force
abbrev pub opens : {P F : Type 0} → (Option P → P → Option F) → Option P → Option (Result P F) → Bool
opens succession current None = false
opens succession current (Some found) = is_none (fault_under succession current found)

-- the policy in force after an entry
abbrev pub kept_by : {P F : Type 0} → P → Option P → Option F → Option P
kept_by policy current None = Some policy
kept_by policy current (Some fault) = current

abbrev pub next_policy : {P F : Type 0} → (Option P → P → Option F) → Option P → Option (Result P F) → Option P
next_policy succession current None = current
next_policy succession current (Some (Err fault)) = current
next_policy succession current (Some (Ok policy)) = kept_by policy current (succession current policy)

module _ {P F : Type 0} (checked : ℕ → Option (Result P F)) (succession : Option P → P → Option F) where
  -- whether entry k takes effect where these are the epochs
  abbrev pub is_epoch : List ℕ → ℕ → Bool
  is_epoch epochs k = opens succession (policy_in checked (below k epochs)) (checked k)

  -- of the entries up to n, these are the epochs: the rising numbers of those that take effect under the policy of the
  -- greatest epoch below them
  abbrev pub AreEpochs : ℕ → List ℕ → Type 0
  AreEpochs n epochs = epochs ≡ filter (is_epoch epochs) (numbers n)

  -- exactly one list is that of the epochs
  abbrev pub OneList : ℕ → Type 0
  OneList n = (list : List ℕ) × (AreEpochs n list × ((other : List ℕ) → AreEpochs n other → other ≡ list))

  -- the policy in force after the entries up to n, each taken in turn
  abbrev pub policy_after : ℕ → Option P
  policy_after zero = None
  policy_after (suc n) = next_policy succession (policy_after n) (checked (suc n))
