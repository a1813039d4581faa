-- The log of a repository as one chain, and its break: relations over what each id leads to.
use Rattle.std.specs.Prelude.{◌≡◌, ◌≤◌, ◌<◌, ◌+◌, ◌-◌, ◌⊎◌, ◌↔◌, ◌++◌}
use Rattle.std.specs.Prelude.{ℕ, List, [], ◌∷◌, length, Option, Some, None}
use Rattle.std.specs.Prelude.{IfSome}
use Rattle.rsl_chain.specs.declared.heads.Head.{Head}

-- what each id leads to: an entry's number and parent
abbrev pub Entries : Type 0
Entries = List ℕ → Option Head

-- the last of a list
abbrev pub last_of : List (List ℕ) → Option (List ℕ)
last_of [] = None
last_of (x ∷ []) = Some x
last_of (x ∷ y ∷ ys) = last_of (y ∷ ys)

-- what the entry after these is
abbrev pub head_after : List (List ℕ) → Head
head_after front = record { number = length front + 1; parent = last_of front }

-- oldest first: each is an entry that counts those before it, and whose only parent is the last of them
abbrev pub AreLinked : Entries → List (List ℕ) → Type 0
AreLinked entries ids = (front : List (List ℕ)) (id : List ℕ) (rest : List (List ℕ)) → ids ≡ front ++ id ∷ rest
    → entries id ≡ Some (head_after front)

-- these ids are the log whose reference has this value
pub record IsLog (entries : Entries) (tip : Option (List ℕ)) (ids : List (List ℕ)) : Type 0 where
  pub linked : AreLinked entries ids
  pub last : last_of ids ≡ tip

-- an entry with this head stands at the id, of the number that its child wants, if it has one
pub record Stands (entries : Entries) (wanted : Option ℕ) (id : List ℕ) (head : Head) : Type 0 where
  pub read : entries id ≡ Some head
  pub number : IfSome wanted (λ n. head.number ≡ n)

-- back from an id over parents that stand, to the first commit that does not
abbrev pub Leads : Entries → Option ℕ → List ℕ → List (List ℕ) → List ℕ → Type 0
Leads entries wanted id [] bad = (id ≡ bad) × ((head : Head) → Stands entries wanted id head → ⊥)
Leads entries wanted id (parent ∷ parents) bad =
    (head : Head) × Stands entries wanted id head × (head.parent ≡ Some parent)
    × Leads entries (Some (head.number - 1)) parent parents bad

abbrev pub BreaksFrom : Entries → Option ℕ → List ℕ → List ℕ → Type 0
BreaksFrom entries wanted id bad = (parents : List (List ℕ)) × Leads entries wanted id parents bad

-- the first commit from the tip that is missing, no entry, or of another number than its child wants
abbrev pub IsBreak : Entries → Option (List ℕ) → List ℕ → Type 0
IsBreak entries None bad = ⊥
IsBreak entries (Some id) bad = BreaksFrom entries None id bad

-- the head of an entry: a number from 1 to 1,000,000, and no parent exactly at 1
pub record IsHead (head : Head) : Type 0 where
  pub some : 0 < head.number
  pub most : head.number ≤ 1000000
  pub first : (head.number ≡ 1) ↔ (head.parent ≡ None)

abbrev pub AreHeads : Entries → Type 0
AreHeads entries = (id : List ℕ) → IfSome (entries id) IsHead

-- ---- what holds of them

abbrev pub OneLog : Type 0
OneLog = (entries : Entries) (tip : Option (List ℕ)) (xs ys : List (List ℕ)) → IsLog entries tip xs
    → IsLog entries tip ys → xs ≡ ys

abbrev pub OneBreak : Type 0
OneBreak = (entries : Entries) (tip : Option (List ℕ)) (x y : List ℕ) → IsBreak entries tip x → IsBreak entries tip y
    → x ≡ y

abbrev pub NeverBoth : Type 0
NeverBoth = (entries : Entries) (tip : Option (List ℕ)) (ids : List (List ℕ)) (bad : List ℕ) → IsLog entries tip ids
    → IsBreak entries tip bad → ⊥

abbrev pub LogOrBreak : Type 0
LogOrBreak = (entries : Entries) (tip : Option (List ℕ)) → AreHeads entries
    → ((ids : List (List ℕ)) × IsLog entries tip ids) ⊎ ((bad : List ℕ) × IsBreak entries tip bad)
