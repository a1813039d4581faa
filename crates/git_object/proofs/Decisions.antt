-- Facts of texts that are decided: each holds, or its opposite does.
use Rattle.std.proofs.Common.{◌≡◌, ℕ, ◌≤◌, ◌==◌, Bool, true, false, ◌||◌, List, [], ◌∷◌, ◌++◌, length, take, drop, refl, sym, ap, subst, ◌∙◌, arith, inl, inr}
use Rattle.std.specs.Prelude.{slice_index, ◌⊎◌}
use Rattle.std.specs.Char.{is_ascii_digit}
use Rattle.std.specs.List.{AllPass}
use Rattle.std.specs.Str.{bytes_eq}
use Rattle.std.proofs.lemmas.Bool.{cases_eq, cases_lt, false≢true, ne_eqb, true≢false}
use Rattle.std.proofs.lemmas.List.{take-append-drop, take_at}
use Rattle.std.proofs.lemmas.List.Elements.{All-cons, All-head, All-nil, All-tail}
use Rattle.std.proofs.lemmas.Slice.Eq.{bytes_eq-Decides}
use Rattle.hex.specs.Hex.{encode_lower}
use Rattle.hex.proofs.HexLemmas.{decode_pairs-ok}
use Rattle.text_reader.specs.Hexadecimal.{is_lower_digit}
use Rattle.text_reader.specs.Line.{has_byte}
use Rattle.text_reader.specs.Number.{IsNumber}
use Rattle.text_reader.proofs.LowerHexadecimal.{pairs}
use Rattle.git_object.specs.Ids.{IsId}
use Rattle.git_object.proofs.IdLemmas.{id_is_lower, length-hexadecimal}

abbrev pub Decided : Type 0 → Type 0
Decided A = A ⊎ (A → ⊥)

-- two facts
pub both : (A B : Type 0) → Decided A → Decided B → Decided (A × B)
both A B a b = elim a [
  | inl x ↦ elim b [ inl y ↦ inl (x, y) | inr never ↦ inr (λ p. never p.1) ]
  | inr never ↦ inr (λ p. never p.0)
]

-- a fact that follows from another and gives it
pub same_fact : (A B : Type 0) → (A → B) → (B → A) → Decided A → Decided B
same_fact A B to from a = elim a [ inl x ↦ inl (to x) | inr never ↦ inr (λ y. never (from y)) ]

pub is_true : (b : Bool) → Decided (b ≡ true)
is_true true = inl refl
is_true false = inr false≢true

pub is_false : (b : Bool) → Decided (b ≡ false)
is_false true = inr true≢false
is_false false = inl refl

pub is_within : (m n : ℕ) → Decided (m ≤ n)
is_within m n = elim (cases_lt n m) [ inl more ↦ inr (λ h. absurd (omega arith)) | inr within ↦ inl within ]

pub is_text : (a b : List ℕ) → Decided (a ≡ b)
is_text a b = same_fact (bytes_eq a b ≡ true) (a ≡ b) (bytes_eq-Decides a b).0 (bytes_eq-Decides a b).1 (is_true (bytes_eq a b))

pub is_empty : (xs : List ℕ) → Decided (xs ≡ [])
is_empty [] = inl refl
is_empty (x ∷ xs) = inr (λ e. cc e)

pub all_pass : (test : ℕ → Bool) (text : List ℕ) → Decided (AllPass test text)
all_pass test [] = inl (All-nil _)
all_pass test (c ∷ text) =
    let P : ℕ → Type 0 = λ d. test d ≡ true in
    same_fact ((test c ≡ true) × AllPass test text) (AllPass test (c ∷ text)) (λ p. All-cons P c text p.0 p.1) (λ all. (All-head P c text all, All-tail P c text all))
    (both (test c ≡ true) (AllPass test text) (is_true (test c)) (all_pass test text))

-- ---- numbers

pub is_number : (text : List ℕ) → Decided (IsNumber text)
is_number text =
    let One : Type 0 = slice_index text 0 ≡ 48 → length text ≡ 1 in
    let one : Decided One = elim (cases_eq (slice_index text 0) 48) [
      | inl zero_first ↦ elim (cases_eq (length text) 1) [ inl alone ↦ inl (λ _. alone) | inr more ↦ inr (λ h. more (h zero_first)) ]
      | inr another ↦ inl (λ e. absurd (another e))
    ] in
    same_fact (AllPass is_ascii_digit text × ((1 ≤ length text) × One)) (IsNumber text)
    (λ p. record { digits = p.0; some = omega (arith, p.1.0); one_form = p.1.1 }) (λ n. let some = n.some in (n.digits, (omega arith, n.one_form)))
    (both (AllPass is_ascii_digit text) ((1 ≤ length text) × One) (all_pass is_ascii_digit text) (both (1 ≤ length text) One (is_within 1 (length text)) one))

-- ---- fronts

-- the word stands in front, or it does not
pub begins : (word text : List ℕ) → Decided ((rest : List ℕ) × (text ≡ word ++ rest))
begins [] text = inl (text, refl)
begins (c ∷ word) [] = inr (λ p. cc (p.1))
begins (c ∷ word) (d ∷ text) = elim (cases_eq d c) [
  | inl same ↦ elim (begins word text) [
    | inl found ↦ inl (found.0, λ i. same i ∷ found.1 i)
    | inr none ↦ inr (λ p. let e = p.1 in let rest : text ≡ word ++ p.0 = cc in none (p.0, rest))
  ]
  | inr apart ↦ inr (λ p. let e = p.1 in let first : d ≡ c = cc in apart first)
]

-- the first place of a byte
pub record FirstByte (c : ℕ) (text : List ℕ) : Type 0 where
  pub before : List ℕ
  pub after : List ℕ
  pub whole : text ≡ before ++ c ∷ after
  pub none : has_byte c before ≡ false

pub first_byte : (c : ℕ) (text : List ℕ) → FirstByte c text ⊎ (has_byte c text ≡ false)
first_byte c [] = inr refl
first_byte c (d ∷ text) = elim (cases_eq d c) [
  | inl same ↦ inl (record { before = []; after = text; whole = λ i. same i ∷ text; none = refl })
  | inr apart ↦
      let here : (d == c) ≡ false = ne_eqb d c apart in
      elim (first_byte c text) [
        | inl found ↦ inl (record { before = d ∷ found.before; after = found.after; whole = λ i. d ∷ found.whole i; none = ap (λ (t : Bool). t || has_byte c found.before) here ∙ found.none })
        | inr none ↦ inr (ap (λ (t : Bool). t || has_byte c text) here ∙ none)
      ]
]

-- ---- ids

pub record IsIdText (text : List ℕ) : Type 0 where
  pub id : List ℕ
  pub is : IsId id
  pub text_is : text ≡ encode_lower id

pub is_id_text : (text : List ℕ) → Decided (IsIdText text)
is_id_text text = elim (cases_eq (length text) 64) [
  | inl long ↦ elim (all_pass is_lower_digit text) [
    | inl digits ↦
        let found = pairs 0 text (omega arith) digits in
        let read = decode_pairs-ok 0 text found.bytes found.reads in
        let twice = read.1 in
        inl (record { id = found.bytes; is = record { length = omega arith; bytes = read.2 }; text_is = sym found.writes })
    | inr none ↦ inr (λ h. none (subst (AllPass is_lower_digit) (sym h.text_is) (id_is_lower h.id h.is).1))
  ]
  | inr other ↦ inr (λ h. other (ap length h.text_is ∙ length-hexadecimal h.id h.is))
]

-- an id and what follows it
pub record IdFront (text : List ℕ) : Type 0 where
  pub id : List ℕ
  pub more : List ℕ
  pub is : IsId id
  pub whole : text ≡ encode_lower id ++ more

pub id_front : (text : List ℕ) → Decided (IdFront text)
id_front text = elim (is_id_text (take 64 text)) [
  | inl found ↦ inl (record { id = found.id; more = drop 64 text; is = found.is; whole = sym (take-append-drop 64 text) ∙ ap (λ (t : List ℕ). t ++ drop 64 text) found.text_is })
  | inr none ↦ inr (λ h. none (record { id = h.id; is = h.is; text_is = ap (take 64) h.whole ∙ take_at (encode_lower h.id) h.more 64 (length-hexadecimal h.id h.is) }))
]
