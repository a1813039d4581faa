-- One key file has one key, and each of its leaves is used or not.
use Rattle.std.proofs.Common.{arith, ◌≡◌, ◌<◌, ◌≤◌, ◌+◌, ◌^◌, ℕ, List, length, inl, inr, ap, ◌∙◌, sym, subst, get_or}
use Rattle.lms_keys.specs.HssSecret.{Secret, height_of}
use Rattle.leaf_journal.specs.KeyFile.{IsKeyFile, start_of}
use Rattle.leaf_journal.proofs.Fronts as fronts
use Rattle.leaf_journal.proofs.Leaves.{byte_is}
use Rattle.leaf_journal.specs.Files.{IsLeastUnused, IsNoKeyFile, IsUsedUp}

pub one_key : (file : List ℕ) (a b : Secret) → IsKeyFile file a → IsKeyFile file b → a ≡ b
one_key file a b is other = fronts.one_key file a b is other

too_short : (n p s : ℕ) → n < 64 → 64 ≤ s → n ≡ s + p → ⊥
too_short n p s less low is = omega arith

-- a file is that of a key or of none
pub not_both : (file : List ℕ) → IsNoKeyFile file → (secret : Secret) → IsKeyFile file secret → ⊥
not_both file (inl short) secret key = too_short (length file) (2 ^ height_of secret) (start_of secret.below) short (fronts.start_least secret.below) key.size
not_both file (inr (inl none)) secret key = none.none secret key.header
not_both file (inr (inr other)) secret key =
    other.other (key.size ∙ ap (λ (s : Secret). start_of s.below + 2 ^ height_of s) (fronts.one_header file secret other.secret key.header other.header))

-- a file of which each leaf is used has no unused one
pub not_spent : (file : List ℕ) (s t : Secret) (leaf : ℕ) → IsUsedUp file s → IsLeastUnused file t leaf → ⊥
not_spent file s t leaf used_up unused =
    used_up.used leaf (subst (λ (u : Secret). leaf < 2 ^ height_of u) (one_key file t s unused.is used_up.is) unused.within)
    (byte_is file t leaf unused.is ∙ unused.free)
