-- What a secret key signs is good for its public part.
use Rattle.std.proofs.Common.{◌≡◌, ℕ, ◌+◌, ◌-◌, ◌*◌, ◌^◌, ◌<◌, List, ◌++◌, length, take, drop, sym, ◌∙◌, ap, arith, append_assoc, length-append}
use Rattle.std.specs.Int.{w32, to_be_bytes, from_be_bytes}
use Rattle.std.proofs.lemmas.Nat.{from_be_bytes-to_be_bytes_4}
use Rattle.std.proofs.lemmas.List.{drop-drop, drop_at, take_at}
use Rattle.lmots.specs.OtsType as one_time_type
use Rattle.lmots.specs.OneTime as one_time
use Rattle.lmots.specs.Chain.{joined}
use Rattle.lmots.proofs.Blocks.{AreBlocks, length-joined, block-joined}
use Rattle.lmots.proofs.Signed.{IsOfType-signature, candidate-signature}
use Rattle.lms_keys.specs.LmsType.{code, height, signature_len}
use Rattle.lms_keys.specs.Tree.{climbed, leaf_value, tree_node, sibling_in}
use Rattle.lms_keys.specs.Signature.{IsSignature, leaf_in, one_time_in, path_in, root_from}
use Rattle.lms_keys.specs.Secret.{Secret, node_of, path_of, public_key_of, signature}
use Rattle.lms_keys.proofs.Climbing.{climbed-same, climbed-root}
use Rattle.lms_keys.proofs.Growing.{node-leaf, length-node}
use Rattle.lms_keys.proofs.SameKey.{code_small}

module _ (s : Secret) (q : ℕ) (message : List ℕ) where
  -- the three parts after q
  abbrev signed : List ℕ
  signed = one_time.signature s.ots s.i q s.seed message

  abbrev type_bytes : List ℕ
  type_bytes = to_be_bytes w32 (code s.lms)

  abbrev path : List ℕ
  path = joined (path_of s q) (height s.lms)

  path_blocks : AreBlocks (path_of s q) (height s.lms)
  path_blocks level inside = length-node s.ots (height s.lms) s.i s.seed _

  length-signed : length signed ≡ one_time_type.signature_len s.ots
  length-signed = (IsOfType-signature s.ots s.i q s.seed message).long

  leaf_in-signature : q < 2 ^ 32 → leaf_in (signature s q message) ≡ q
  leaf_in-signature small = from_be_bytes-to_be_bytes_4 q small

  after_leaf : drop 4 (signature s q message) ≡ signed ++ (type_bytes ++ path)
  after_leaf = append_assoc signed type_bytes path

  one_time_in-signature : one_time_in s.ots (signature s q message) ≡ signed
  one_time_in-signature =
      ap (take (one_time_type.signature_len s.ots)) after_leaf
      ∙ take_at signed (type_bytes ++ path) (one_time_type.signature_len s.ots) length-signed

  after_one_time : drop (4 + one_time_type.signature_len s.ots) (signature s q message) ≡ type_bytes ++ path
  after_one_time =
      sym (drop-drop (one_time_type.signature_len s.ots) 4 (signature s q message))
      ∙ ap (drop (one_time_type.signature_len s.ots)) after_leaf
      ∙ drop_at signed (type_bytes ++ path) (one_time_type.signature_len s.ots) length-signed

  path_in-signature : path_in s.ots (signature s q message) ≡ path
  path_in-signature =
      let place : 8 + one_time_type.signature_len s.ots ≡ 4 + one_time_type.signature_len s.ots + 4 = omega arith in
      ap (λ n. drop n (signature s q message)) place
      ∙ sym (drop-drop 4 (4 + one_time_type.signature_len s.ots) (signature s q message))
      ∙ ap (drop 4) after_one_time

  length-signature : length (signature s q message) ≡ signature_len s.lms s.ots
  length-signature =
      let path_long : length path ≡ 32 * height s.lms = length-joined (path_of s q) (height s.lms) path_blocks in
      let front : length (to_be_bytes w32 q ++ signed) ≡ 4 + length signed = length-append (to_be_bytes w32 q) signed in
      let middle : length (to_be_bytes w32 q ++ signed ++ type_bytes) ≡ length (to_be_bytes w32 q ++ signed) + 4 =
      length-append (to_be_bytes w32 q ++ signed) type_bytes in
      length-append (to_be_bytes w32 q ++ signed ++ type_bytes) path ∙ omega (arith, path_long, front, middle, length-signed)

  root_from-signature : q < 2 ^ height s.lms
      → root_from (public_key_of s) q (one_time.public_key s.ots s.i q s.seed) path ≡ node_of s 1
  root_from-signature inside =
      let h : ℕ = height s.lms in
      let place : 2 ^ h + q - 2 ^ h ≡ q = omega arith in
      let begun : leaf_value s.i (2 ^ h + q) (one_time.public_key s.ots s.i q s.seed) ≡ tree_node s.ots h s.i s.seed (2 ^ h + q) =
      sym (node-leaf s.ots h s.i s.seed (2 ^ h + q) (omega arith)
      ∙ ap (λ leaf. leaf_value s.i (2 ^ h + q) (one_time.public_key s.ots s.i leaf s.seed)) place) in
      ap (λ v. climbed s.i (2 ^ h + q) v (sibling_in path) h) begun
      ∙ climbed-same s.i (2 ^ h + q) (tree_node s.ots h s.i s.seed (2 ^ h + q)) (sibling_in path) (path_of s q) h
      (block-joined (path_of s q) h path_blocks)
      ∙ climbed-root s.ots h s.i s.seed q inside

  pub IsSignature-signature : q < 2 ^ height s.lms → q < 2 ^ 32 → IsSignature (public_key_of s) message (signature s q message)
  IsSignature-signature inside small = record {
    long = length-signature;
    one_time = rw one_time_in-signature (IsOfType-signature s.ots s.i q s.seed message);
    lms = ap (λ l. from_be_bytes w32 (take 4 l)) after_one_time ∙ from_be_bytes-to_be_bytes_4 (code s.lms) (code_small s.lms);
    leaf = rw (leaf_in-signature small) inside;
    root =
        ap (λ p. root_from (public_key_of s) (leaf_in (signature s q message)) (one_time.candidate s.ots s.i (leaf_in (signature s q message)) message (one_time_in s.ots (signature s q message))) p) path_in-signature
        ∙ ap (λ o. root_from (public_key_of s) (leaf_in (signature s q message)) (one_time.candidate s.ots s.i (leaf_in (signature s q message)) message o) path) one_time_in-signature
        ∙ ap (λ leaf. root_from (public_key_of s) leaf (one_time.candidate s.ots s.i leaf message signed) path) (leaf_in-signature small)
        ∙ ap (λ key. root_from (public_key_of s) q key path) (candidate-signature s.ots s.i q s.seed message)
        ∙ root_from-signature inside;
  }

  pub leaf-signature : q < 2 ^ 32 → leaf_in (signature s q message) ≡ q
  leaf-signature small = leaf_in-signature small
