-- The end of a chain as the lanes make it, and a piece among eight.
use Rattle.std.proofs.Common.{◌≡◌, ℕ, suc, ◌-◌, ◌^◌, ◌<◌, List, ap, arith}
use Prim.Native.Nat as Nat
use Rattle.sha2.specs.Sha256.{sha256}
use Rattle.sha256_lanes.specs.Chain.{message, walked}
use Rattle.lmots.specs.declared.ots_type.OtsType.{OtsType}
use Rattle.lmots.specs.OtsType.{width}
use Rattle.lmots.specs.Chain.{head}
use Rattle.lmots.specs.OneTime.{ended}

-- the end of a chain, from its head
pub walked-ended : (kind : OtsType) (i : List ℕ) (q : ℕ) (seed : List ℕ) (chain : ℕ) (h : List ℕ) → h ≡ head i q chain
    → walked h 0 (2 ^ width kind - 1) (sha256 (message h 0xff seed)) ≡ ended kind i q seed chain
walked-ended kind i q seed chain h same =
    ap (λ (l : List ℕ). walked l 0 (2 ^ width kind - 1) (sha256 (message l 0xff seed))) same

-- what holds of each number below eight
pub eight_cases : (P : ℕ → Type 0) → P 0 → P 1 → P 2 → P 3 → P 4 → P 5 → P 6 → P 7 → (k : ℕ) → k < 8 → P k
eight_cases P p0 p1 p2 p3 p4 p5 p6 p7 Nat.zero lt = p0
eight_cases P p0 p1 p2 p3 p4 p5 p6 p7 (suc Nat.zero) lt = p1
eight_cases P p0 p1 p2 p3 p4 p5 p6 p7 (suc (suc Nat.zero)) lt = p2
eight_cases P p0 p1 p2 p3 p4 p5 p6 p7 (suc (suc (suc Nat.zero))) lt = p3
eight_cases P p0 p1 p2 p3 p4 p5 p6 p7 (suc (suc (suc (suc Nat.zero)))) lt = p4
eight_cases P p0 p1 p2 p3 p4 p5 p6 p7 (suc (suc (suc (suc (suc Nat.zero))))) lt = p5
eight_cases P p0 p1 p2 p3 p4 p5 p6 p7 (suc (suc (suc (suc (suc (suc Nat.zero)))))) lt = p6
eight_cases P p0 p1 p2 p3 p4 p5 p6 p7 (suc (suc (suc (suc (suc (suc (suc Nat.zero))))))) lt = p7
eight_cases P p0 p1 p2 p3 p4 p5 p6 p7 (suc (suc (suc (suc (suc (suc (suc (suc n)))))))) lt = absurd (omega arith)
