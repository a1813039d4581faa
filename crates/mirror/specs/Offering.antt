-- What an offered log is to the kept one. Both are lists of the ids of their entries.
use Rattle.std.specs.Prelude.{◌≡◌, ◌≢◌, ◌+◌, ◌++◌, ◌∷◌, ℕ, List, length}
use Rattle.mirror.specs.declared.offers.Offer.{Offer}
use Rattle.mirror.specs.declared.offers.Offer.TheVariants.{Taken, Same, Behind, Forked}

-- the second goes on where the first ends
pub record GoesOn (short long : List (List ℕ)) : Type 0 where
  pub next : List ℕ
  pub rest : List (List ℕ)
  pub whole : long ≡ short ++ next ∷ rest

-- both are alike up to the entries of this number, which differ
pub record Part (kept offered : List (List ℕ)) (number : ℕ) (ours theirs : List ℕ) : Type 0 where
  pub front : List (List ℕ)
  pub kept_rest : List (List ℕ)
  pub offered_rest : List (List ℕ)
  pub in_kept : kept ≡ front ++ ours ∷ kept_rest
  pub in_offered : offered ≡ front ++ theirs ∷ offered_rest
  pub counts : number ≡ length front + 1
  pub differ : ours ≢ theirs

abbrev pub IsOffering : List (List ℕ) → List (List ℕ) → Offer → Type 0
IsOffering kept offered (Taken from to) = (from ≡ length kept) × (to ≡ length offered) × GoesOn kept offered
IsOffering kept offered (Same count) = (count ≡ length kept) × (offered ≡ kept)
IsOffering kept offered (Behind ours theirs) = (ours ≡ length kept) × (theirs ≡ length offered) × GoesOn offered kept
IsOffering kept offered (Forked number ours theirs) = Part kept offered number ours theirs
