-- A hasher that takes the ends of a leaf's chains.
use Rattle.std.proofs.Common.{◌≡◌, ℕ, ◌+◌, List, ◌++◌, ◌∙◌, ap, subst}
use Rattle.std.specs.Int.{w16, w32, to_be_bytes}
use Rattle.sha2.specs.Sha256.{sha256}
use Rattle.sha2.specs.Hashers.{Holds256}
use Rattle.sha2.specs.declared.Sha256.{Sha256}
use Rattle.lmots.specs.declared.ots_type.OtsType.{OtsType}
use Rattle.lmots.specs.OtsType.{chain_count}
use Rattle.lmots.specs.Chain.{joined}
use Rattle.lmots.specs.OneTime.{ended, public_key}
use Rattle.lmots.proofs.Rows.{joined_none, joined_more}

-- what the hash of all ends begins with
abbrev begun : List ℕ → ℕ → List ℕ
begun i q = i ++ to_be_bytes w32 q ++ to_be_bytes w16 0x8080

-- it has taken the ends of n chains of leaf q
pub record HoldsEnds (kind : OtsType) (i : List ℕ) (q : ℕ) (seed : List ℕ) (n : ℕ) (hasher : Sha256) : Type 0 where
  pub held : Holds256 hasher (begun i q ++ joined (ended kind i q seed) n)

pub held_none : (kind : OtsType) (i : List ℕ) (q : ℕ) (seed : List ℕ) (hasher : Sha256) → Holds256 hasher (begun i q)
    → HoldsEnds kind i q seed 0 hasher
held_none kind i q seed hasher held = record { held = subst (Holds256 hasher) (joined_none _ (ended kind i q seed)) held }

pub held_more : (kind : OtsType) (i : List ℕ) (q : ℕ) (seed : List ℕ) (n : ℕ) (hasher next : Sha256) (end : List ℕ) → HoldsEnds kind i q seed n hasher
    → end ≡ ended kind i q seed n → ((m : List ℕ) → Holds256 hasher m → Holds256 next (m ++ end)) → HoldsEnds kind i q seed (n + 1) next
held_more kind i q seed n hasher next end before same taken = record {
  held = subst (Holds256 next) (joined_more (begun i q) (ended kind i q seed) n end same) (taken _ before.held);
}

pub held_all : (kind : OtsType) (i : List ℕ) (q : ℕ) (seed : List ℕ) (n : ℕ) (hasher : Sha256) (key : List ℕ) → n ≡ chain_count kind
    → HoldsEnds kind i q seed n hasher → ((m : List ℕ) → Holds256 hasher m → key ≡ sha256 m) → key ≡ public_key kind i q seed
held_all kind i q seed n hasher key all held made =
    made _ held.held ∙ ap (λ k. sha256 (begun i q ++ joined (ended kind i q seed) k)) all
