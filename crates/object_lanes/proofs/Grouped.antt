-- The ids of a group from the digests of its lanes.
use Rattle.std.proofs.Common.{◌≡◌, ℕ, zero, suc, ◌<◌, ◌≤◌, List, [], ◌∷◌, ◌++◌, length, map, slice_index_or, refl, ◌∙◌, arith}
use Rattle.std.specs.Prelude.{take}
use Rattle.sha2.specs.Sha256.{sha256}
use Rattle.object_lanes.specs.Groups.{unnamed_head, unnamed_id}
use Rattle.object_lanes.specs.declared.heads.Unnamed.{Unnamed}

-- the digest of a lane is the id of the object in it
pub lane_id : (group : List Unnamed) (i : ℕ) (head body digest : List ℕ) → i < length group → head ≡ slice_index_or (map unnamed_head group) i []
    → body ≡ slice_index_or (map (λ (o : Unnamed). o.body) group) i [] → digest ≡ sha256 (head ++ body) → digest ≡ slice_index_or (map unnamed_id group) i []
lane_id [] i head body digest lt eh eb e = absurd (omega (arith, lt))
lane_id (o ∷ os) zero head body digest lt eh eb e = e ∙ (λ j. sha256 (eh j ++ eb j))
lane_id (o ∷ os) (suc i) head body digest lt eh eb e = lane_id os i head body digest (omega (arith, lt)) eh eb e

next : (P : ℕ → Type 0) (n : ℕ) → P 0 → ((i : ℕ) → i < n → P (suc i)) → (i : ℕ) → i < suc n → P i
next P n first later zero lt = first
next P n first later (suc i) lt = later i (omega (arith, lt))

-- what is so in each of eight lanes
pub in_eight : (P : ℕ → Type 0) → P 0 → P 1 → P 2 → P 3 → P 4 → P 5 → P 6 → P 7 → (i : ℕ) → i < 8 → P i
in_eight P a b c d e f g h =
    next P 7 a (next (λ i. P (suc i)) 6 b (next (λ i. P (suc (suc i))) 5 c (next (λ i. P (suc (suc (suc i)))) 4 d (next (λ i. P (suc (suc (suc (suc i))))) 3 e (next (λ i. P (suc (suc (suc (suc (suc i)))))) 2 f (next (λ i. P (suc (suc (suc (suc (suc (suc i))))))) 1 g (next (λ i. P (suc (suc (suc (suc (suc (suc (suc i)))))))) 0 h (λ i lt. absurd (omega (arith, lt))))))))))

-- a row that begins with the ids of a group, one by one
pub first_ids : (group : List Unnamed) (row : List (List ℕ)) → length group ≤ length row
    → ((i : ℕ) → i < length group → slice_index_or row i [] ≡ slice_index_or (map unnamed_id group) i []) → take (length group) row ≡ map unnamed_id group
first_ids [] [] le each = refl
first_ids [] (y ∷ row) le each = refl
first_ids (o ∷ os) [] le each = absurd (omega (arith, le))
first_ids (o ∷ os) (y ∷ row) le each =
    let rest = first_ids os row (omega (arith, le)) (λ i lt. each (suc i) (omega (arith, lt))) in
    (λ j. each 0 (omega arith) j ∷ rest j)
