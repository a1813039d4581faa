-- What base64 decodes to is bytes.
use Rattle.std.proofs.Common.{◌≡◌, ℕ, zero, suc, ◌+◌, ◌-◌, ◌*◌, ◌/◌, ◌<◌, ◌≤◌, true, false, List, []}
use Rattle.std.proofs.Common.{◌∷◌, ◌++◌, length, take, drop, slice_index, Option, Some, None, Result, Ok, Err, refl}
use Rattle.std.proofs.Common.{ap, subst, arith, inl, inr}
use Rattle.std.proofs.lemmas.List.{get_or-drop, length-drop}
use Rattle.std.specs.Result.{result_ok}
use Rattle.base64.specs.Decode.{IsDecodeTable, decode_error, decode_group, decode_outcome, decoded_bytes, group_bytes}
use Rattle.base64.specs.Decode.{group_error, groups_before_last, groups_bytes, groups_error, lone_error, no_leftover}
use Rattle.base64.specs.Decode.{or_else, scan, scan_bytes, suffix_bytes, suffix_error, symbol_error}
use Rattle.base64.specs.Engines.{standard}
use Rattle.base64.specs.GeneralPurpose.{IsBytes, decode_of, decoded_of, encode_of}
use Rattle.base64.specs.declared.decode.DecodeError.{DecodeError}
use Rattle.base64.specs.declared.engine.DecodePaddingMode.{DecodePaddingMode}
use Rattle.base64.proofs.Canonical.{IsScanned, IsScanned-scan}
use Rattle.base64.proofs.EngineFacts.{decode_of_strict}
use Rattle.base64.proofs.Tables.{IsDecodeTable_from, are_tables_inverse}
use Rattle.base64.specs.Tables.{is_inverse}
use Rattle.rsl_chain.specs.Lines.{decoded}

abbrev Text : Type 0
Text = List ℕ

pub both_bytes : (a b : Text) → IsBytes a → IsBytes b → IsBytes (a ++ b)
both_bytes [] b of_a of_b i = of_b i
both_bytes (x ∷ a) b of_a of_b zero = of_a 0
both_bytes (x ∷ a) b of_a of_b (suc i) = both_bytes a b (λ k. of_a (suc k)) of_b i

front_of_bytes : (n : ℕ) (a : Text) → IsBytes a → IsBytes (take n a)
front_of_bytes zero a of_a i = omega arith
front_of_bytes (suc n) [] of_a i = omega arith
front_of_bytes (suc n) (x ∷ a) of_a zero = of_a 0
front_of_bytes (suc n) (x ∷ a) of_a (suc i) = front_of_bytes n a (λ k. of_a (suc k)) i

group_low : (a b c d : ℕ) → a < 64 → b < 64 → c < 64 → d < 64 → IsBytes (decode_group a b c d)
group_low a b c d of_a of_b of_c of_d zero = omega (arith, of_a, of_b)
group_low a b c d of_a of_b of_c of_d (suc zero) = omega (arith, of_b, of_c)
group_low a b c d of_a of_b of_c of_d (suc (suc zero)) = omega (arith, of_c, of_d)
group_low a b c d of_a of_b of_c of_d (suc (suc (suc i))) = omega arith

either_none : (x y : Option DecodeError) → or_else x y ≡ None → (x ≡ None) × (y ≡ None)
either_none None y is = (refl, is)
either_none (Some e) y is = cc is

-- a byte without an error is a symbol's
symbol_low : (dec s : Text) (i : ℕ) → IsDecodeTable dec → IsBytes s → symbol_error dec s i ≡ None → slice_index dec (slice_index s i) < 64
symbol_low dec s i low bytes none = elim (low (slice_index s i) (bytes i)) [ inl bad ↦ cc (rw bad at none) | inr good ↦ good ]

groups_low : (dec s : Text) (q : ℕ) → IsDecodeTable dec → IsBytes s → groups_error dec s q ≡ None → IsBytes (groups_bytes dec s q)
unfolding groups_error groups_bytes
groups_low dec s zero low bytes none = λ i. omega arith
groups_low dec s (suc q) low bytes none =
    let i : ℕ = 4 * q in
    let parts = either_none (groups_error dec s q) (group_error dec s i) none in
    let first = either_none (symbol_error dec s i) (or_else (symbol_error dec s (i + 1))
    (or_else (symbol_error dec s (i + 2)) (symbol_error dec s (i + 3)))) parts.1 in
    let second = either_none (symbol_error dec s (i + 1)) (or_else (symbol_error dec s (i + 2)) (symbol_error dec s (i + 3))) first.1 in
    let third = either_none (symbol_error dec s (i + 2)) (symbol_error dec s (i + 3)) second.1 in
    both_bytes (groups_bytes dec s q) (group_bytes dec s i) (groups_low dec s q low bytes parts.0)
    (group_low (slice_index dec (slice_index s i)) (slice_index dec (slice_index s (i + 1))) (slice_index dec (slice_index s (i + 2)))
    (slice_index dec (slice_index s (i + 3)))
    (symbol_low dec s i low bytes first.0) (symbol_low dec s (i + 1) low bytes second.0) (symbol_low dec s (i + 2) low bytes third.0)
    (symbol_low dec s (i + 3) low bytes third.1))

-- ---- the last group

zeros_low : (k : ℕ) → slice_index (0 ∷ 0 ∷ 0 ∷ 0 ∷ []) k < 64
zeros_low zero = omega arith
zeros_low (suc zero) = omega arith
zeros_low (suc (suc zero)) = omega arith
zeros_low (suc (suc (suc zero))) = omega arith
zeros_low (suc (suc (suc (suc k)))) = omega arith

left_low : (values : Text) (count : ℕ) → ((k : ℕ) → slice_index values k < 64)
    → IsBytes (take (count * 6 / 8) (decode_group (slice_index values 0) (slice_index values 1) (slice_index values 2) (slice_index values 3)))
left_low values count low =
    front_of_bytes (count * 6 / 8) (decode_group (slice_index values 0) (slice_index values 1) (slice_index values 2) (slice_index values 3))
    (group_low (slice_index values 0) (slice_index values 1) (slice_index values 2) (slice_index values 3) (low 0) (low 1) (low 2) (low 3))

-- before the first byte of the last group
nothing_scanned : (enc rest : Text) (pad : ℕ) → IsScanned enc pad rest no_leftover 0
nothing_scanned enc rest pad = (refl, refl, λ j less. absurd (omega arith), λ j low less. absurd (omega arith))

last_low : (enc dec rest : Text) (pad at : ℕ) → is_inverse enc dec ≡ true → IsBytes rest → length rest ≤ 4
    → IsBytes (scan_bytes (scan dec pad at no_leftover 0 rest))
last_low enc dec rest pad at inverse bytes short =
    elim (scan dec pad at no_leftover 0 rest) as (λ r. scan dec pad at no_leftover 0 rest ≡ r → IsBytes (scan_bytes r)) [
      | Ok st ↦ λ is.
          left_low st.morsels st.morsels_count
          (IsScanned-scan enc dec rest pad at rest no_leftover st 0 inverse bytes short (omega arith) refl
          (nothing_scanned enc rest pad, (omega arith, omega arith, omega arith, zeros_low)) is).1.3
      | Err e ↦ λ is i. omega arith
    ] refl

rest_bytes : (s : Text) (n : ℕ) → IsBytes s → IsBytes (drop n s)
rest_bytes s n bytes k = rw (get_or-drop n s k 0) (bytes (n + k))

all_low : (enc dec s : Text) (pad : ℕ) (mode : DecodePaddingMode) → is_inverse enc dec ≡ true → IsBytes s → decode_error dec pad false mode s ≡ None
    → IsBytes (decoded_bytes dec pad s)
all_low enc dec s pad mode inverse bytes none =
    let q : ℕ = groups_before_last (length s) in
    let rest : Text = drop (4 * q) s in
    let left : length rest ≡ length s - 4 * q = length-drop (4 * q) s in
    let past = either_none (lone_error dec pad s) (or_else (groups_error dec s q) (suffix_error dec pad false mode (4 * q) s)) none in
    let groups = either_none (groups_error dec s q) (suffix_error dec pad false mode (4 * q) s) past.1 in
    both_bytes (groups_bytes dec s q) (suffix_bytes dec pad (4 * q) s) (groups_low dec s q (IsDecodeTable_from enc dec inverse) bytes groups.0)
    (last_low enc dec rest pad (4 * q) inverse (rest_bytes s (4 * q) bytes) (omega (arith, left)))

-- ---- a whole text

outcome : (error : Option DecodeError) (bytes b : Text) → decode_outcome error bytes ≡ Ok b → (error ≡ None) × (bytes ≡ b)
outcome None bytes b is = (refl, cc is)
outcome (Some e) bytes b is = cc is

read_of : (r : Result Text DecodeError) (b : Text) → result_ok r ≡ Some b → r ≡ Ok b
read_of (Ok x) b is = let same : x ≡ b = cc is in ap (λ (t : Text). Ok t) same
read_of (Err e) b is = cc is

-- what a text decodes to is bytes, of which the text is the encoding
pub decoded_is : (text bytes : Text) → IsBytes text → decoded text ≡ Some bytes → (text ≡ encode_of standard bytes) × IsBytes bytes
unfolding decoded_of
decoded_is text bytes all is =
    let ok = read_of (decode_of standard text) bytes is in
    let parts = outcome (decode_error standard.decode_table standard.padding.value false standard.config.decode_padding_mode text)
    (decoded_bytes standard.decode_table standard.padding.value text) bytes ok in (
      decode_of_strict standard text bytes (refl, refl) all ok,
      subst IsBytes parts.1
          (all_low standard.encode_table standard.decode_table text standard.padding.value standard.config.decode_padding_mode
          (are_tables_inverse standard.encode_table standard.decode_table standard.padding.value standard.tables) all parts.0),
    )
