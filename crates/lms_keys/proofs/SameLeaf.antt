-- Two good signatures with one leaf show the same, or strings that are hashed collide.
use Rattle.std.proofs.Common.{◌≡◌, ℕ, suc, ◌+◌, ◌*◌, ◌^◌, ◌<◌, List, ◌++◌, take, drop, inl, inr, sym, ◌∙◌, ap, subst, arith, length-take, length-drop}
use Rattle.std.specs.Int.{w16, w32, to_be_bytes}
use Rattle.sha2.proofs.Facts256.{length-sha256}
use Rattle.lmots.specs.Chain.{joined}
use Rattle.lmots.specs.OtsType as one_time_type
use Rattle.lmots.specs.OtsType.{chain_count}
use Rattle.lmots.specs.OneTime.{key_text}
use Rattle.lmots.proofs.Blocks.{AreBlocks, block-joined}
use Rattle.lmots.proofs.Steps.{length-steps}
use Rattle.lms_keys.specs.declared.public_key.PublicKey.{PublicKey}
use Rattle.lms_keys.specs.LmsType.{height}
use Rattle.lms_keys.specs.Tree.{leaf_text, leaf_value, sibling_in}
use Rattle.lms_keys.specs.Signature.{IsSignature, leaf_in, one_time_in, path_in, root_from}
use Rattle.lms_keys.specs.OneLeaf.{OneLeaf, end_in, key_in, shown_in}
use Rattle.lms_keys.proofs.Collisions.{back, same_or_not}
use Rattle.lms_keys.proofs.OneWay.{one_way}

module _ (key : PublicKey) (q : ℕ) where
  pub length-shown : (m s : List ℕ) → IsSignature key m s → AreBlocks (shown_in key s) (chain_count key.ots)
  length-shown m s good chain inside =
      let o : List ℕ = one_time_in key.ots s in
      omega (arith, length-take 32 (drop (36 + 32 * chain) o), length-drop (36 + 32 * chain) o, good.one_time.long, inside)

  -- the ends of chains have 32 bytes each
  end_blocks : (m s : List ℕ) → IsSignature key m s → AreBlocks (end_in key q m s) (chain_count key.ots)
  end_blocks m s good chain inside = length-steps key.i q chain _ _ (shown_in key s chain) (length-shown m s good chain inside)

  sibling_blocks : (m s : List ℕ) → IsSignature key m s → AreBlocks (sibling_in (path_in key.ots s)) (height key.lms)
  sibling_blocks m s good level inside =
      let p : List ℕ = path_in key.ots s in
      omega (arith, length-take 32 (drop (32 * level) p), length-drop (32 * level) p, length-drop (8 + one_time_type.signature_len key.ots) s, good.long, inside)

  same_ends : (m s n t : List ℕ) → IsSignature key m s → IsSignature key n t
      → key_text key.ots key.i q (end_in key q m s) ≡ key_text key.ots key.i q (end_in key q n t)
      → (chain : ℕ) → chain < chain_count key.ots → end_in key q m s chain ≡ end_in key q n t chain
  same_ends m s n t good good_too texts chain inside =
      let p : ℕ = chain_count key.ots in
      let front : List ℕ = key.i ++ to_be_bytes w32 q ++ to_be_bytes w16 0x8080 in
      let all = back front (joined (end_in key q m s) p) (joined (end_in key q n t) p) texts in
      sym (block-joined (end_in key q m s) p (end_blocks m s good) chain inside)
      ∙ ap (λ l. take 32 (drop (32 * chain) l)) all
      ∙ block-joined (end_in key q n t) p (end_blocks n t good_too) chain inside

  -- the leaf's number taken out of the equation of the root
  led : (m s : List ℕ) → IsSignature key m s → leaf_in s ≡ q → root_from key q (key_in key q m s) (path_in key.ots s) ≡ key.root
  led m s good is = subst (λ k. root_from key k (key_in key k m s) (path_in key.ots s) ≡ key.root) is good.root

pub one_leaf : OneLeaf
one_leaf key q m s n t good is good_too is_too =
    let r : ℕ = 2 ^ height key.lms + q in
    let one : List ℕ = key_in key q m s in
    let other : List ℕ = key_in key q n t in
    let met = one_way key.i r (leaf_value key.i r one) (leaf_value key.i r other) (sibling_in (path_in key.ots s)) (sibling_in (path_in key.ots t))
    (height key.lms) (length-sha256 _) (length-sha256 _) (sibling_blocks key q m s good) (sibling_blocks key q n t good_too)
    (led key q m s good is ∙ sym (led key q n t good_too is_too)) in
    elim met [
      | inr found ↦ inr (record { step = suc (suc (suc found.level)); inside = omega (arith, found.inside); collide = found.collide })
      | inl way ↦
          elim (same_or_not (leaf_text key.i r one) (leaf_text key.i r other)) [
            | inr differ ↦ inr (record { step = 2; inside = omega arith; collide = record { differ = differ; same = way.start } })
            | inl leaves ↦
                let keys : one ≡ other = back (key.i ++ to_be_bytes w32 r ++ to_be_bytes w16 0x8282) one other leaves in
                elim (same_or_not (key_text key.ots key.i q (end_in key q m s)) (key_text key.ots key.i q (end_in key q n t))) [
                  | inr differ ↦ inr (record { step = 1; inside = omega arith; collide = record { differ = differ; same = keys } })
                  | inl texts ↦ inl (record { ends = same_ends key q m s n t good good_too texts; path = way.beside })
                ]
          ]
    ]
