-- What follows where two signatures with one leaf of a key are good, though the strings that are
-- hashed for them may collide.
use Rattle.std.specs.Prelude.{◌≡◌, ◌≢◌, ◌⊎◌, ℕ, suc, ◌+◌, ◌-◌, ◌/◌, ◌^◌, ◌<◌, List}
use Prim.Native.Nat as Nat
use Rattle.sha2.specs.Sha256.{sha256}
use Rattle.lmots.specs.OtsType.{chain_count, width}
use Rattle.lmots.specs.Chain.{step_text, steps}
use Rattle.lmots.specs.OneTime.{candidate, digit_of, element_in, finished, key_text, message_digest, message_text}
use Rattle.lmots.specs.OneTime.{randomizer_in}
use Rattle.lms_keys.specs.declared.public_key.PublicKey.{PublicKey}
use Rattle.lms_keys.specs.LmsType.{height}
use Rattle.lms_keys.specs.Tree.{above_text, climbed, leaf_text, leaf_value, sibling_in}
use Rattle.lms_keys.specs.Signature.{IsSignature, leaf_in, one_time_in, path_in}

-- two different strings with one SHA-256
pub record Collide (a b : List ℕ) : Type 0 where
  pub differ : a ≢ b
  pub same : sha256 a ≡ sha256 b

-- Q, the digest of the message, by a signature's randomizer
abbrev pub digest_in : PublicKey → ℕ → List ℕ → List ℕ → List ℕ
digest_in key q message s =
    message_digest key.i q (randomizer_in (one_time_in key.ots s)) message

-- how far along a chain the value stands that a signature shows of it
abbrev pub digit_in : PublicKey → ℕ → List ℕ → List ℕ → ℕ → ℕ
digit_in key q message s chain = digit_of key.ots (digest_in key q message s) chain

-- the value that a signature shows of a chain
abbrev pub shown_in : PublicKey → List ℕ → ℕ → List ℕ
shown_in key s chain = element_in (one_time_in key.ots s) chain

-- the end of a chain of leaf q, as a signature leads to it
abbrev pub end_in : PublicKey → ℕ → List ℕ → List ℕ → ℕ → List ℕ
end_in key q message s chain =
    finished key.ots key.i q (one_time_in key.ots s) (digest_in key q message s) chain

-- the one-time key of leaf q, as a signature leads to it
abbrev pub key_in : PublicKey → ℕ → List ℕ → List ℕ → List ℕ
key_in key q message s = candidate key.ots key.i q message (one_time_in key.ots s)

-- the value of the node so many levels above leaf q, as a signature leads to it
abbrev pub value_in : PublicKey → ℕ → List ℕ → List ℕ → ℕ → List ℕ
value_in key q message s level =
    climbed key.i (2 ^ height key.lms + q)
    (leaf_value key.i (2 ^ height key.lms + q) (key_in key q message s))
    (sibling_in (path_in key.ots s)) level

-- what a verdict hashes beside the chains: first the message, then the ends of all chains, then
-- the one-time key, and then the two nodes below each node on the way to the root
abbrev pub hashed : PublicKey → ℕ → List ℕ → List ℕ → ℕ → List ℕ
hashed key q message s Nat.zero =
    message_text key.i q (randomizer_in (one_time_in key.ots s)) message
hashed key q message s (suc Nat.zero) = key_text key.ots key.i q (end_in key q message s)
hashed key q message s (suc (suc Nat.zero)) =
    leaf_text key.i (2 ^ height key.lms + q) (key_in key q message s)
hashed key q message s (suc (suc (suc level))) =
    above_text key.i ((2 ^ height key.lms + q) / 2 ^ level) (value_in key q message s level)
    (sibling_in (path_in key.ots s) level)

-- the same ends of all chains, and the same nodes on the path
pub record ShowSame (key : PublicKey) (q : ℕ) (m s n t : List ℕ) : Type 0 where
  pub ends : (chain : ℕ) → chain < chain_count key.ots
      → end_in key q m s chain ≡ end_in key q n t chain
  pub path : (level : ℕ) → level < height key.lms
      → sibling_in (path_in key.ots s) level ≡ sibling_in (path_in key.ots t) level

-- the strings that are hashed in one and the same step of both verdicts collide
pub record CollideInStep (key : PublicKey) (q : ℕ) (m s n t : List ℕ) : Type 0 where
  pub step : ℕ
  pub inside : step < height key.lms + 3
  pub collide : Collide (hashed key q m s step) (hashed key q n t step)

-- two good signatures with leaf q, of whatever messages, show the same, or else strings that are
-- hashed collide
abbrev pub OneLeaf : Type 0
OneLeaf =
    (key : PublicKey) (q : ℕ) (m s n t : List ℕ)
    → IsSignature key m s → leaf_in s ≡ q → IsSignature key n t → leaf_in t ≡ q
    → ShowSame key q m s n t ⊎ CollideInStep key q m s n t

-- of some chain the second shows an earlier value than the first, which leads to the first's
pub record ShowsEarlier (key : PublicKey) (q : ℕ) (m s n t : List ℕ) : Type 0 where
  pub chain : ℕ
  pub inside : chain < chain_count key.ots
  pub earlier : digit_in key q n t chain < digit_in key q m s chain
  pub leads :
      steps key.i q chain (digit_in key q n t chain)
      (digit_in key q m s chain - digit_in key q n t chain) (shown_in key t chain)
      ≡ shown_in key s chain

-- from the place where the first shows a chain, the walks from what it shows and from what the
-- second leads to there hash strings that collide, after so many steps
pub record CollideInChain (key : PublicKey) (q : ℕ) (m s n t : List ℕ) : Type 0 where
  pub chain : ℕ
  pub inside : chain < chain_count key.ots
  pub after : ℕ
  pub short : digit_in key q m s chain + after < 2 ^ width key.ots - 1
  pub collide :
      Collide
      (step_text key.i q chain (digit_in key q m s chain + after)
      (steps key.i q chain (digit_in key q m s chain) after (shown_in key s chain)))
      (step_text key.i q chain (digit_in key q m s chain + after)
      (steps key.i q chain (digit_in key q m s chain) after
      (steps key.i q chain (digit_in key q n t chain)
      (digit_in key q m s chain - digit_in key q n t chain) (shown_in key t chain))))

-- where two signatures of different messages with leaf q are good, the second shows an earlier value
-- of some chain, or else strings that are hashed collide
abbrev pub OtherMessage : Type 0
OtherMessage =
    (key : PublicKey) (q : ℕ) (m s n t : List ℕ)
    → IsSignature key m s → leaf_in s ≡ q → IsSignature key n t → leaf_in t ≡ q → m ≢ n
    → ShowsEarlier key q m s n t ⊎ (CollideInChain key q m s n t ⊎ CollideInStep key q m s n t)
