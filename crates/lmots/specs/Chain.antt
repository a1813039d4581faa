-- The hash chains of a one-time key, each by the key's identifier i, its leaf q and a chain's
-- number.
use Rattle.std.specs.Prelude.{◌≡◌, ℕ, suc, ◌+◌, List, [], ◌∷◌, ◌++◌}
use Rattle.std.specs.Int.{w16, w32, to_be_bytes}
use Rattle.sha2.specs.Sha256.{sha256}
use Rattle.sha256_lanes.specs.Chain.{message, walked}
use Prim.Native.Nat as Nat

-- I || u32str(q) || u16str(chain)
abbrev pub head : List ℕ → ℕ → ℕ → List ℕ
head i q chain = i ++ to_be_bytes w32 q ++ to_be_bytes w16 chain

-- I || u32str(q) || u16str(chain) || u8str(j) || x
abbrev pub step_text : List ℕ → ℕ → ℕ → ℕ → List ℕ → List ℕ
step_text i q chain j x = message (head i q chain) j x

-- step j of a chain: the hash of these (RFC 8554, section 4.3)
abbrev pub step : List ℕ → ℕ → ℕ → ℕ → List ℕ → List ℕ
step i q chain j x = sha256 (step_text i q chain j x)

-- x after n steps, of which step j is the first (RFC 8554, sections 4.3, 4.5 and 4.6)
abbrev pub steps : List ℕ → ℕ → ℕ → ℕ → ℕ → List ℕ → List ℕ
steps i q chain j n x = walked (head i q chain) j n x

-- no steps change nothing, and the last of more is taken from what those before it reached
pub record StepByStep : Type 0 where
  pub none : (i : List ℕ) (q chain j : ℕ) (x : List ℕ) → steps i q chain j 0 x ≡ x
  pub last : (i : List ℕ) (q chain j n : ℕ) (x : List ℕ)
      → steps i q chain j (n + 1) x ≡ step i q chain (j + n) (steps i q chain j n x)

-- the start of a chain, from the seed (RFC 8554, appendix A)
abbrev pub private_element : List ℕ → ℕ → ℕ → List ℕ → List ℕ
private_element i q chain seed = sha256 (head i q chain ++ 0xff ∷ [] ++ seed)

-- the randomizer, drawn from the seed in the same way, under a number that no chain has
abbrev pub randomizer : List ℕ → ℕ → List ℕ → List ℕ
randomizer i q seed = private_element i q 0xfffd seed

-- z 0, …, z (n - 1), one after another
unfoldable pub joined : (ℕ → List ℕ) → ℕ → List ℕ
joined z Nat.zero = []
joined z (suc n) = joined z n ++ z n
