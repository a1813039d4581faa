-- What the signatures of a key of one level or of two use.
use Rattle.std.proofs.Common.{◌≡◌, ◌==◌, ◌<◌, ◌+◌, ◌-◌, ◌^◌, ℕ, Bool, List, [], ◌∷◌, ◌++◌, length, take, drop, refl, sym, ap, ◌∙◌, arith, append_assoc, length-append}
use Rattle.std.specs.Prelude.{if◌then◌else◌}
use Rattle.std.specs.Int.{w32, to_be_bytes}
use Rattle.std.proofs.lemmas.List.{drop_at, take_at}
use Rattle.lms_keys.specs.LmsType.{height}
use Rattle.lms_keys.specs.PublicKey.{number_in}
use Rattle.lms_keys.specs.Secret as one
use Rattle.lms_keys.specs.Signature.{leaf_in}
use Rattle.lms_keys.proofs.Levels.{spelled-number}
use Rattle.lms_keys.specs.HssSecret.{bytes_of, link_by}
use Rattle.lms_keys.proofs.Sizes.{bytes_long, signature_long}
use Rattle.evidence.specs.Uses.{Use, len_by, next_key, uses, uses_from}
use Rattle.evidence.proofs.KeyLengths.{four_long, key_len}

-- ---- one level
pub one_use : (key : one.Secret) (message s : List ℕ) → length key.i ≡ 16 → uses (bytes_of key) message s ≡ record { key = bytes_of key; leaf = leaf_in s; message = message } ∷ []
unfolding uses uses_from
one_use key message s wide =
    ap (λ (b : Bool). if b then uses_from (number_in (bytes_of key) 0 - 1) (drop 4 (bytes_of key)) message (drop 4 s) else uses_from 0 (bytes_of key) message s)
    (ap (λ (n : ℕ). n == 60) (bytes_long key wide))

-- ---- two levels
module _ (top last : one.Secret) (wide : length top.i ≡ 16) (wide_too : length last.i ≡ 16) (t q : ℕ) (low : t < 2 ^ height top.lms) (message : List ℕ) where
  abbrev link : List ℕ
  link = one.signature top t (bytes_of last)

  abbrev end : List ℕ
  end = one.signature last q message

  abbrev whole : List ℕ
  whole = link_by top last t ++ end

  grouped : whole ≡ to_be_bytes w32 1 ++ (link ++ (bytes_of last ++ end))
  grouped = append_assoc (to_be_bytes w32 1 ++ link) (bytes_of last) end ∙ append_assoc (to_be_bytes w32 1) link (bytes_of last ++ end)

  cut : drop 4 whole ≡ link ++ (bytes_of last ++ end)
  cut = ap (drop 4) grouped ∙ drop_at (to_be_bytes w32 1) (link ++ (bytes_of last ++ end)) 4 (four_long 1)

  behind : drop (len_by (bytes_of top)) (drop 4 whole) ≡ bytes_of last ++ end
  behind =
      ap (drop (len_by (bytes_of top))) cut
      ∙ drop_at link (bytes_of last ++ end) (len_by (bytes_of top)) (signature_long top t (bytes_of last) low ∙ sym (key_len (one.public_key_of top)))

  next_is : next_key (bytes_of top) (drop 4 whole) ≡ bytes_of last
  next_is = ap (take 56) behind ∙ take_at (bytes_of last) end 56 (bytes_long last wide_too)

  rest_is : drop 56 (drop (len_by (bytes_of top)) (drop 4 whole)) ≡ end
  rest_is = ap (drop 56) behind ∙ drop_at (bytes_of last) end 56 (bytes_long last wide_too)

  two_long : length (to_be_bytes w32 2 ++ bytes_of top) ≡ 60
  two_long = length-append (to_be_bytes w32 2) (bytes_of top) ∙ ap (λ (n : ℕ). 4 + n) (bytes_long top wide)

  abbrev two_at : List ℕ → ℕ → List Use
  two_at key leaf = record { key = bytes_of top; leaf = leaf_in (drop 4 whole); message = key } ∷ record { key = key; leaf = leaf; message = message } ∷ []

  pub two_uses : uses (to_be_bytes w32 2 ++ bytes_of top) message whole
      ≡ record { key = bytes_of top; leaf = leaf_in (drop 4 whole); message = bytes_of last } ∷ record { key = bytes_of last; leaf = leaf_in end; message = message } ∷ []
  unfolding uses uses_from
  two_uses =
      ap (λ (b : Bool). if b then uses_from (number_in (to_be_bytes w32 2 ++ bytes_of top) 0 - 1) (drop 4 (to_be_bytes w32 2 ++ bytes_of top)) message (drop 4 whole) else uses_from 0 (to_be_bytes w32 2 ++ bytes_of top) message whole)
      (ap (λ (n : ℕ). n == 60) two_long)
      ∙ ap (λ (n : ℕ). uses_from (n - 1) (drop 4 (to_be_bytes w32 2 ++ bytes_of top)) message (drop 4 whole)) (spelled-number 2 (to_be_bytes w32 2 ++ bytes_of top) (bytes_of top) (omega arith) refl)
      ∙ ap (λ (key : List ℕ). uses_from 1 key message (drop 4 whole)) (drop_at (to_be_bytes w32 2) (bytes_of top) 4 (four_long 2))
      ∙ ap (λ (key : List ℕ). two_at key (leaf_in (drop 56 (drop (len_by (bytes_of top)) (drop 4 whole))))) next_is
      ∙ ap (λ (s : List ℕ). two_at (bytes_of last) (leaf_in s)) rest_is
