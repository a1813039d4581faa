-- The definition of the epochs, read aloud, without tests and filters.
use Rattle.std.specs.Prelude.{◌≡◌, ◌<◌, ◌≤◌, ℕ, List, Option, Some, None, Result, Ok}
use Rattle.std.specs.List.{Contains}

module _ {P F : Type 0} (checked : ℕ → Option (Result P F)) where
  -- the greatest member below k, whose entry brought this policy
  pub record IsGreatest (list : List ℕ) (k : ℕ) (policy : P) : Type 0 where
    pub member : ℕ
    pub there : Contains list member
    pub below : member < k
    pub greatest : (other : ℕ) → Contains list other → other < k → other ≤ member
    pub brought : checked member ≡ Some (Ok policy)

  -- the policy of the greatest member below k, or none where no member is below
  abbrev pub IsInForce : List ℕ → ℕ → Option P → Type 0
  IsInForce list k None = (member : ℕ) → Contains list member → member < k → ⊥
  IsInForce list k (Some policy) = IsGreatest list k policy

module _ {P F : Type 0} (checked : ℕ → Option (Result P F)) (succession : Option P → P → Option F) where
  -- entry k is among the first n, and brings a valid policy that may follow the one in force
  pub record IsEpoch (n : ℕ) (list : List ℕ) (k : ℕ) : Type 0 where
    pub first : 1 ≤ k
    pub within : k ≤ n
    pub policy : P
    pub brings : checked k ≡ Some (Ok policy)
    pub current : Option P
    pub in_force : IsInForce checked list k current
    pub follows : succession current policy ≡ None
