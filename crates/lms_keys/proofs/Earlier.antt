-- Of two good signatures with one leaf for different messages, the second shows an earlier value of
-- some chain, or strings that are hashed collide.
use Rattle.std.proofs.Common.{◌≡◌, ◌≢◌, ◌⊎◌, ℕ, ◌+◌, ◌-◌, ◌^◌, ◌<◌, ◌≤◌, List, ◌++◌, length, drop, inl, inr, sym, ◌∙◌, ap, arith, length-take, length-drop}
use Rattle.std.specs.Int.{w16, w32, to_be_bytes}
use Rattle.lmots.specs.OtsType.{chain_count, width}
use Rattle.lmots.specs.Chain.{steps}
use Rattle.lmots.specs.Digits.{with_checksum}
use Rattle.lmots.specs.OneTime.{message_text, randomizer_in}
use Rattle.lmots.proofs.DigitLists.{length-digits, slice_index-digits}
use Rattle.lmots.proofs.LesserDigit.{coef-le, less_somewhere}
use Rattle.lmots.proofs.HashBytes.{IsDigest-sha256}
use Rattle.lmots.proofs.Steps.{steps-steps}
use Rattle.lms_keys.specs.declared.public_key.PublicKey.{PublicKey}
use Rattle.lms_keys.specs.Signature.{IsSignature, one_time_in}
use Rattle.lms_keys.specs.OneLeaf.{CollideInChain, OtherMessage, ShowSame, ShowsEarlier, digest_in, digit_in, shown_in}
use Rattle.lms_keys.proofs.Collisions.{same_or_not, two_parts}
use Rattle.lms_keys.proofs.OneChain.{one_chain}
use Rattle.lms_keys.proofs.SameLeaf.{one_leaf}

length-randomizer : (key : PublicKey) (m s : List ℕ) → IsSignature key m s → length (randomizer_in (one_time_in key.ots s)) ≡ 32
length-randomizer key m s good =
    let o : List ℕ = one_time_in key.ots s in
    omega (arith, length-take 32 (drop 4 o), length-drop 4 o, good.one_time.long)

-- the text of a digest fixes the message
same_message : (key : PublicKey) (q : ℕ) (m s n t : List ℕ) → IsSignature key m s → IsSignature key n t
    → message_text key.i q (randomizer_in (one_time_in key.ots s)) m ≡ message_text key.i q (randomizer_in (one_time_in key.ots t)) n → m ≡ n
same_message key q m s n t good good_too texts =
    (two_parts (key.i ++ to_be_bytes w32 q ++ to_be_bytes w16 0x8181) (randomizer_in (one_time_in key.ots s)) m (randomizer_in (one_time_in key.ots t)) n
    (length-randomizer key m s good) (length-randomizer key n t good_too) texts).1

record LessInChain (key : PublicKey) (q : ℕ) (m s n t : List ℕ) : Type 0 where
  chain : ℕ
  inside : chain < chain_count key.ots
  less : digit_in key q n t chain < digit_in key q m s chain

less_in_chain : (key : PublicKey) (q : ℕ) (m s n t : List ℕ) → digest_in key q m s ≢ digest_in key q n t → LessInChain key q m s n t
less_in_chain key q m s n t differ =
    let first : List ℕ = digest_in key q m s in
    let second : List ℕ = digest_in key q n t in
    let found = less_somewhere key.ots first second (IsDigest-sha256 _) (IsDigest-sha256 _) differ in
    let within : found.place < chain_count key.ots = omega (arith, found.inside, length-digits (with_checksum key.ots second) (width key.ots) (chain_count key.ots)) in
    record {
      chain = found.place;
      inside = within;
      less = omega (
        arith,
        found.less,
        slice_index-digits (with_checksum key.ots first) (width key.ots) (chain_count key.ots) found.place within,
        slice_index-digits (with_checksum key.ots second) (width key.ots) (chain_count key.ots) found.place within,
      );
    }

-- a walk in two parts, up to the end
onward : (i : List ℕ) (q chain low high top : ℕ) (x : List ℕ) → low < high → high ≤ top
    → steps i q chain low (top - low) x ≡ steps i q chain high (top - high) (steps i q chain low (high - low) x)
onward i q chain low high top x below inside =
    let place : low + (high - low) ≡ high = omega arith in
    let count : (high - low) + (top - high) ≡ top - low = omega arith in
    ap (λ k. steps i q chain low k x) (sym count)
    ∙ sym (steps-steps i q chain low (high - low) (top - high) x)
    ∙ ap (λ a. steps i q chain a (top - high) (steps i q chain low (high - low) x)) place

earlier : (key : PublicKey) (q : ℕ) (m s n t : List ℕ) → LessInChain key q m s n t → ShowSame key q m s n t
    → ShowsEarlier key q m s n t ⊎ CollideInChain key q m s n t
earlier key q m s n t found show =
    let chain : ℕ = found.chain in
    let high : ℕ = digit_in key q m s chain in
    let low : ℕ = digit_in key q n t chain in
    let top : ℕ = 2 ^ width key.ots - 1 in
    let bound : high ≤ top = coef-le key.ots (with_checksum key.ots (digest_in key q m s)) chain in
    let led : List ℕ = steps key.i q chain low (high - low) (shown_in key t chain) in
    let met : steps key.i q chain high (top - high) (shown_in key s chain) ≡ steps key.i q chain high (top - high) led =
    show.ends chain found.inside ∙ onward key.i q chain low high top (shown_in key t chain) found.less bound in
    elim (one_chain key.i q chain high (top - high) (shown_in key s chain) led met) [
      | inl same ↦ inl (record { chain = chain; inside = found.inside; earlier = found.less; leads = sym same })
      | inr parted ↦
          inr (record { chain = chain; inside = found.inside; after = parted.after; short = omega (arith, parted.short, bound); collide = parted.collide })
    ]

pub other_message : OtherMessage
other_message key q m s n t good is good_too is_too differ =
    let text : List ℕ = message_text key.i q (randomizer_in (one_time_in key.ots s)) m in
    let other : List ℕ = message_text key.i q (randomizer_in (one_time_in key.ots t)) n in
    elim (same_or_not text other) [
      | inl texts ↦ absurd (differ (same_message key q m s n t good good_too texts))
      | inr apart ↦
          elim (same_or_not (digest_in key q m s) (digest_in key q n t)) [
            | inl digests ↦ inr (inr (record { step = 0; inside = omega arith; collide = record { differ = apart; same = digests } }))
            | inr unlike ↦
                elim (one_leaf key q m s n t good is good_too is_too) [
                  | inr found ↦ inr (inr found)
                  | inl show ↦
                      elim (earlier key q m s n t (less_in_chain key q m s n t unlike) show) [
                        | inl shows ↦ inl shows
                        | inr found ↦ inr (inl found)
                      ]
                ]
          ]
    ]
