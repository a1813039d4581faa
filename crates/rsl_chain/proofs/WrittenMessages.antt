-- The lines of a written message are read as its bytes.
use Rattle.std.proofs.Common.{◌≡◌, ℕ, zero, suc, ◌+◌, ◌<◌, ◌≤◌, Bool, true, false, List, [], ◌∷◌, ◌++◌, length, take, drop, Option, Some, inl, inr, refl, sym, ap, subst, ◌∙◌, arith, append_assoc, length-append}
use Rattle.std.proofs.lemmas.Bool.{cases_lt}
use Rattle.std.proofs.lemmas.List.{length-take-le, take-append-drop}
use Rattle.base64.specs.GeneralPurpose.{IsBytes}
use Rattle.base64.proofs.EngineFacts.{encode_of-append, front_bytes}
use Rattle.base64.specs.Engines.{standard}
use Rattle.rsl_chain.specs.Drafts.{cut, joined, message_lines}
use Rattle.rsl_chain.specs.Grammar.{message_begin, message_end, piece_or_end_step, piece_step, piece_want, step}
use Rattle.rsl_chain.specs.Lines.{is_full}
use Rattle.rsl_chain.specs.declared.parts.Parts.{Parts}
use Rattle.rsl_chain.specs.declared.places.Part.TheVariants.{Piece}
use Rattle.rsl_chain.specs.declared.places.Step.{Step}
use Rattle.rsl_chain.specs.declared.places.Want.{Want}
use Rattle.rsl_chain.specs.declared.places.Want.TheVariants.{MessageOrEnd, FirstPiece, PieceOrMessageEnd, End}
use Rattle.rsl_chain.proofs.DraftLemmas.{cut_more, cut_one}
use Rattle.rsl_chain.proofs.Pieces.{base64, base64_plain, piece_full, piece_most, piece_not_end, piece_read, piece_some, piece_whole, rest_bytes}
use Rattle.rsl_chain.proofs.Runs.{Runs, at, runs_end, runs_line, to}

abbrev Text : Type 0
Text = List ℕ

abbrev piece_place : Bool → Want
piece_place true = FirstPiece
piece_place false = PieceOrMessageEnd

abbrev after_piece : Bool → Text → Option Text → ℕ → ℕ → Step
after_piece full m parent n k = record { place = at (piece_want full) parent n k; part = Piece m }

piece_on : (first : Bool) (m : Text) (parent : Option Text) (n k : ℕ) → 0 < length m → length m ≤ 48 → IsBytes m
    → step (at (piece_place first) parent n k) (base64 m) ≡ Some (after_piece (is_full (base64 m)) m parent n k)
unfolding step
piece_on true m parent n k some few bytes = ap (λ (o : Option Text). piece_step o (is_full (base64 m)) (at FirstPiece parent n k)) (piece_read m some few bytes)
piece_on false m parent n k some few bytes =
    ap (λ (b : Bool). piece_or_end_step b (base64 m) (at PieceOrMessageEnd parent n k)) (piece_not_end m)
    ∙ ap (λ (o : Option Text). piece_step o (is_full (base64 m)) (at PieceOrMessageEnd parent n k)) (piece_read m some few bytes)

message_over : (full : Bool) (parent : Option Text) (n k : ℕ) → step (at (piece_want full) parent n k) message_end ≡ Some (to (at End parent n k))
unfolding step
message_over true parent n k = refl
message_over false parent n k = refl

message_ends : (full : Bool) (parent : Option Text) (n k : ℕ) (parts : Parts) → Runs (at (piece_want full) parent n k) parts (message_end ∷ []) (joined (message_end ∷ [])) (at End parent n k) parts
message_ends full parent n k parts =
    runs_line (at (piece_want full) parent n k) parts message_end [] [] (to (at End parent n k)) (at End parent n k) parts (message_over full parent n k) tt refl
    (runs_end (at End parent n k) parts refl)

abbrev piece_lines : Text → List Text
piece_lines m = cut 64 (base64 m) ++ message_end ∷ []

abbrev PieceRuns : Bool → List Text → Text → Option Text → ℕ → ℕ → Parts → Type 0
PieceRuns first ls m parent n k parts =
    Runs (at (piece_place first) parent n k) parts ls (joined ls) (at End parent n k) (record parts { message = parts.message ++ m })

last_piece : (first : Bool) (m : Text) (parent : Option Text) (n k : ℕ) (parts : Parts) → 0 < length m → length m ≤ 48 → IsBytes m → PieceRuns first (piece_lines m) m parent n k parts
last_piece first m parent n k parts some few bytes =
    subst (λ (ls : List Text). PieceRuns first (ls ++ message_end ∷ []) m parent n k parts) (sym (cut_one (base64 m) (piece_some m some) (piece_most m few)))
    (runs_line (at (piece_place first) parent n k) parts (base64 m) (message_end ∷ []) (joined (message_end ∷ [])) (after_piece (is_full (base64 m)) m parent n k)
    (at End parent n k) (record parts { message = parts.message ++ m }) (piece_on first m parent n k some few bytes) tt (base64_plain m)
    (message_ends (is_full (base64 m)) parent n k (record parts { message = parts.message ++ m })))

one_piece : (first : Bool) (a b : Text) (parent : Option Text) (n k : ℕ) (parts : Parts) → length a ≡ 48 → IsBytes a
    → PieceRuns false (piece_lines b) b parent n k (record parts { message = parts.message ++ a }) → PieceRuns first (piece_lines (a ++ b)) (a ++ b) parent n k parts
one_piece first a b parent n k parts whole bytes rest =
    let cuts : cut 64 (base64 (a ++ b)) ≡ base64 a ∷ cut 64 (base64 b) =
    ap (cut 64) (encode_of-append standard a b (omega (arith, whole))) ∙ cut_more (base64 a) (base64 b) (piece_whole a whole) in
    subst (λ (ls : List Text). PieceRuns first (ls ++ message_end ∷ []) (a ++ b) parent n k parts) (sym cuts)
    (subst (λ (now : Text). Runs (at (piece_place first) parent n k) parts (base64 a ∷ piece_lines b) (joined (base64 a ∷ piece_lines b)) (at End parent n k) (record parts { message = now }))
    (append_assoc parts.message a b)
    (runs_line (at (piece_place first) parent n k) parts (base64 a) (piece_lines b) (joined (piece_lines b)) (after_piece true a parent n k) (at End parent n k)
    (record parts { message = (parts.message ++ a) ++ b })
    (piece_on first a parent n k (omega (arith, whole)) (omega (arith, whole)) bytes ∙ ap (λ (full : Bool). Some (after_piece full a parent n k)) (piece_full a whole))
    tt (base64_plain a) rest))

pieces : (most : ℕ) (first : Bool) (m : Text) (parent : Option Text) (n k : ℕ) (parts : Parts) → length m ≤ most → 0 < length m → IsBytes m → PieceRuns first (piece_lines m) m parent n k parts
pieces zero first m parent n k parts within some bytes = absurd (omega (arith, within, some))
pieces (suc most) first m parent n k parts within some bytes = elim (cases_lt 48 (length m)) [
  | inl long ↦
      let split : take 48 m ++ drop 48 m ≡ m = take-append-drop 48 m in
      let front : length (take 48 m) ≡ 48 = length-take-le 48 m (omega (arith, long)) in
      let parts_of : length (take 48 m) + length (drop 48 m) ≡ length m = sym (length-append (take 48 m) (drop 48 m)) ∙ ap length split in
      let all : IsBytes (take 48 m ++ drop 48 m) = subst IsBytes (sym split) bytes in
      subst (λ (t : Text). PieceRuns first (piece_lines t) t parent n k parts) split
      (one_piece first (take 48 m) (drop 48 m) parent n k parts front (front_bytes (take 48 m) (drop 48 m) all)
      (pieces most false (drop 48 m) parent n k (record parts { message = parts.message ++ take 48 m }) (omega (arith, within, front, parts_of)) (omega (arith, long, front, parts_of))
      (rest_bytes (take 48 m) (drop 48 m) all)))
  | inr short ↦ last_piece first m parent n k parts some (omega (arith, short)) bytes
]

abbrev pub message_want : Text → Want
message_want [] = MessageOrEnd
message_want (b ∷ bytes) = End

pub message_runs : (m : Text) (parent : Option Text) (n k : ℕ) (parts : Parts) → parts.message ≡ [] → IsBytes m
    → Runs (at MessageOrEnd parent n k) parts (message_lines m) (joined (message_lines m)) (at (message_want m) parent n k) (record parts { message = m })
unfolding step
message_runs [] parent n k parts none bytes =
    subst (λ (t : Text). Runs (at MessageOrEnd parent n k) parts [] [] (at MessageOrEnd parent n k) (record parts { message = t })) none (runs_end (at MessageOrEnd parent n k) parts refl)
message_runs (b ∷ m) parent n k parts none bytes =
    subst (λ (t : Text). Runs (at MessageOrEnd parent n k) parts (message_lines (b ∷ m)) (joined (message_lines (b ∷ m))) (at End parent n k) (record parts { message = t ++ b ∷ m })) none
    (runs_line (at MessageOrEnd parent n k) parts message_begin (piece_lines (b ∷ m)) (joined (piece_lines (b ∷ m))) (to (at FirstPiece parent n k)) (at End parent n k)
    (record parts { message = parts.message ++ b ∷ m }) refl tt refl
    (pieces (length (b ∷ m)) true (b ∷ m) parent n k parts (omega arith) (omega arith) bytes))
