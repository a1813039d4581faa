-- The uses of a good signature are its parts: by each level the key, the leaf that its signature names, and the key
-- that stands behind it, and at the last level the message.
use Rattle.std.specs.Prelude.{◌≡◌, ◌-◌, ◌∷◌, [], ℕ, suc, zero, List}
use Rattle.lms_keys.specs.SigOk.{HssSigOk, LmsSigOk}
use Rattle.lms_keys.specs.Signature.{leaf_in}
use Rattle.evidence.specs.Uses.{Use, uses}

-- so many signed keys and the last signature, each with what it signs
abbrev pub parts_of : ℕ → (ℕ → List ℕ) → (ℕ → List ℕ) → List ℕ → List Use
parts_of zero keys signatures message =
    record { key = keys 0; leaf = leaf_in (signatures 0); message = message } ∷ []
parts_of (suc n) keys signatures message =
    record { key = keys 0; leaf = leaf_in (signatures 0); message = keys 1 }
    ∷ parts_of n (λ i. keys (suc i)) (λ i. signatures (suc i)) message

-- whatever keys and signatures a good signature is spelled by, its uses are theirs
pub record UsesAreParts : Type 0 where
  pub of_one : (public message s : List ℕ) → LmsSigOk public message s
      → uses public message s ≡ record { key = public; leaf = leaf_in s; message = message } ∷ []
  pub of_levels : (public message s : List ℕ) (ok : HssSigOk public message s)
      → uses public message s ≡ parts_of (ok.levels - 1) ok.signed.keys ok.signed.signatures message
