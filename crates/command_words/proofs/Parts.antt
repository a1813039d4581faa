-- What the texts between commas say of the ids that a text writes.
use Rattle.std.proofs.Common.{◌≡◌, ℕ, ◌<◌, ◌≤◌, ◌==◌, Bool, List, get_or, length, map, sym, ap, subst, ◌∙◌, arith, Option, Some, None, Result, Ok, Err, IfOk, IfSome, IfNone}
use Rattle.std.specs.List.{All, join_with_byte, slice_split}
use Rattle.std.proofs.Math.ListN.{get_or-map, length-map}
use Rattle.std.proofs.lemmas.List.Splits.{join_with_byte-slice_split, length-slice_split}
use Rattle.hex.specs.Hex.{encode_lower}
use Rattle.text_reader.specs.Hexadecimal.{IsLowerHexadecimal}
use Rattle.git_object.specs.Ids.{IsId}
use Rattle.command_words.specs.Ids.{AreIds}
use Rattle.command_words.proofs.Joined.{texts_are}
use Rattle.command_words.proofs.OneValue.{parts_are}

abbrev pub is_comma : ℕ → Bool
is_comma b = b == 44

-- the parts of the text are the ids
are_ids : (most : ℕ) (text : List ℕ) (parts ids : List (List ℕ)) → parts ≡ slice_split is_comma text → length parts ≤ most
    → map encode_lower ids ≡ parts → All IsId ids → AreIds most text ids
are_ids most text parts ids cut few same are =
    let parts_len : length ids ≡ length parts = sym (length-map ids encode_lower) ∙ ap length same in
    let cut_len : length parts ≡ length (slice_split is_comma text) = ap length cut in
    let some = length-slice_split is_comma text in
    record {
      are = are;
      some = omega arith;
      few = omega arith;
      written = sym (join_with_byte-slice_split 44 text) ∙ ap (join_with_byte 44) (sym (same ∙ cut));
    }

-- with more parts than that it writes no such list
pub too_many : (most : ℕ) (text : List ℕ) (parts : List (List ℕ)) → parts ≡ slice_split is_comma text → most < length parts
    → (ids : List (List ℕ)) → AreIds most text ids → ⊥
too_many most text parts cut more ids is =
    let few = is.few in
    let same : length parts ≡ length (map encode_lower ids) = ap length (cut ∙ parts_are most text ids is) in
    let len : length (map encode_lower ids) ≡ length ids = length-map ids encode_lower in
    omega arith

-- a text at one place is no id
pub not_here : {X : Type 0} (now : X → List ℕ) (parts : List X) (i : ℕ) (x : X) (text : List ℕ) → i < length parts
    → text ≡ now (get_or parts i x) → (IsLowerHexadecimal 32 text → ⊥) → All (IsLowerHexadecimal 32) (map now parts) → ⊥
not_here now parts i x text inside same other all =
    let len : length (map now parts) ≡ length parts = length-map parts now in
    other (subst (λ (t : List ℕ). IsLowerHexadecimal 32 t) (get_or-map now parts i x ∙ sym same) (all i (now x) (omega arith)))

module _ {T E : Type 0} (bytes : T → List ℕ) (most : ℕ) (text : List ℕ) (parts : List (List ℕ)) (cut : parts ≡ slice_split is_comma text) where
  pub found : (r : Result (Option (List T)) E) → length parts ≤ most
      → IfOk r (λ found. IfSome found (λ ids. map encode_lower (map bytes ids) ≡ parts))
      → IfOk r (λ found. IfSome found (λ ids. All IsId (map bytes ids)))
      → IfOk r (λ found. IfSome found (λ ids. AreIds most text (map bytes ids)))
  found (Ok (Some ids)) few same are = are_ids most text parts (map bytes ids) cut few same are
  found (Ok None) few same are = tt
  found (Err e) few same are = tt

  pub none : (r : Result (Option (List T)) E) → IfOk r (λ found. IfNone found (All (IsLowerHexadecimal 32) parts → ⊥))
      → IfOk r (λ found. IfNone found ((ids : List (List ℕ)) → AreIds most text ids → ⊥))
  none (Ok None) not_all = λ ids is. not_all (subst (λ (p : List (List ℕ)). All (IsLowerHexadecimal 32) p) (sym (cut ∙ parts_are most text ids is)) (texts_are ids is.are))
  none (Ok (Some ids)) not_all = tt
  none (Err e) not_all = tt
