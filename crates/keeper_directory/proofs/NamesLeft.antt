-- Going over the names of a listing.
use Rattle.std.proofs.Common.{◌≡◌, inl, inr, ◌↔◌, ℕ, false, List, [], ◌∷◌, ◌++◌, length, refl, sym, ap, ◌∙◌, subst, arith, length-append}
use Rattle.std.proofs.lemmas.Bool.{false≢true}
use Rattle.text_reader.specs.Line.{has_byte}
use Rattle.text_reader.proofs.Unique.{has_byte_here, same_until}
use Rattle.keeper_directory.specs.Stores.{AreDots, IsDots, IsListing, IsOneOf}

-- a listing's first name and the rest of it
pub record IsStep (list : List (List ℕ)) (name more : List ℕ) : Type 0 where
  pub left : List (List ℕ)
  pub is : list ≡ name ∷ left
  pub listing : IsListing left more

pub first_name : (list : List (List ℕ)) (text name more : List ℕ) → IsListing list text → text ≡ name ++ 0 ∷ more → has_byte 0 name ≡ false → IsStep list name more
first_name [] text name more is found none = let long = ap length (sym is ∙ found) in let both = length-append name (0 ∷ more) in absurd (omega arith)
first_name (n ∷ names) text name more is found none =
    let parts = same_until 0 n name is.0 more is.2 none (sym is.1 ∙ found) in
    record { left = names; is = ap (λ (m : List ℕ). m ∷ names) parts.0; listing = subst (IsListing names) parts.1 is.3 }

pub no_name : (list : List (List ℕ)) (text : List ℕ) → IsListing list text → has_byte 0 text ≡ false → list ≡ []
no_name [] text is none = refl
no_name (n ∷ names) text is none = absurd (false≢true (sym none ∙ ap (has_byte 0) is.1 ∙ has_byte_here 0 n is.0))

-- what is left of a listing, where a statement on all of it is one on what is left
pub record IsRest (P : List (List ℕ) → Type 0) (list : List (List ℕ)) (rest : List ℕ) : Type 0 where
  pub left : List (List ℕ)
  pub listing : IsListing left rest
  pub same : P list ↔ P left

abbrev pub IsLeft : (List (List ℕ) → Type 0) → List ℕ → List ℕ → Type 0
IsLeft P names rest = (list : List (List ℕ)) → IsListing list names → IsRest P list rest

module _ (P : List (List ℕ) → Type 0) (names rest name more : List ℕ) (so : IsLeft P names rest) (found : rest ≡ name ++ 0 ∷ more) (none : has_byte 0 name ≡ false) where
  -- over a name that does not count
  pub passed : ((left : List (List ℕ)) → P (name ∷ left) ↔ P left) → IsLeft P names more
  passed counts list is =
      let r = so list is in
      let s = first_name r.left rest name more r.listing found none in
      record {
        left = s.left;
        listing = s.listing;
        same = (λ p. (counts s.left).0 (subst P s.is (r.same.0 p)), λ q. r.same.1 (subst P (sym s.is) ((counts s.left).1 q)));
      }

  -- at a name that decides it
  pub decided : ((left : List (List ℕ)) → P (name ∷ left)) → (list : List (List ℕ)) → IsListing list names → P list
  decided holds list is =
      let r = so list is in
      let s = first_name r.left rest name more r.listing found none in
      r.same.1 (subst P (sym s.is) (holds s.left))

  pub refuted : ((left : List (List ℕ)) → P (name ∷ left) → ⊥) → (list : List (List ℕ)) → IsListing list names → P list → ⊥
  refuted fails list is p =
      let r = so list is in
      let s = first_name r.left rest name more r.listing found none in
      fails s.left (subst P s.is (r.same.0 p))

-- where no name is left
pub ended : (P : List (List ℕ) → Type 0) (names rest : List ℕ) → IsLeft P names rest → has_byte 0 rest ≡ false → (list : List (List ℕ)) → IsListing list names → P list ↔ P []
ended P names rest so none list is =
    let r = so list is in
    let empty = no_name r.left rest r.listing none in
    (λ p. subst P empty (r.same.0 p), λ q. r.same.1 (subst P (sym empty) q))

later_one : (wanted name : List ℕ) (names : List (List ℕ)) → (name ≡ wanted → ⊥) → IsOneOf wanted (name ∷ names) → IsOneOf wanted names
later_one wanted name names differs (inl same) = absurd (differs same)
later_one wanted name names differs (inr later) = later

-- another name in front changes nothing
pub other_name : (wanted name : List ℕ) (names : List (List ℕ)) → (name ≡ wanted → ⊥) → IsOneOf wanted (name ∷ names) ↔ IsOneOf wanted names
other_name wanted name names differs = (λ p. later_one wanted name names differs p, λ later. inr later)

-- a name of the folder itself, or of the one above it, in front changes nothing
pub more_dots : (name : List ℕ) (names : List (List ℕ)) → IsDots name → AreDots (name ∷ names) ↔ AreDots names
more_dots name names is = (λ p. p.1, λ q. (is, q))
