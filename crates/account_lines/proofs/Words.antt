-- The words of a text, and the last but one of them.
use Rattle.std.proofs.Common.{◌≡◌, ◌==◌, ◌||◌, ◌++◌, ◌∷◌, [], ℕ, Bool, true, false, List, Option, Some, None, refl, ap, sym, subst, ◌∙◌, inl, inr, append_assoc}
use Rattle.std.specs.Prelude.{cond}
use Rattle.std.proofs.lemmas.Bool.{cases_Bool, eqb-true, true≢false}
use Rattle.std.proofs.lemmas.List.{append-nil}
use Rattle.text_reader.specs.Line.{has_byte}
use Rattle.account_lines.specs.Times.{BeginsWord, last_but_one, onto_word, words}

-- ---- the words of a text

or_parts : (a b : Bool) → (a || b) ≡ false → (a ≡ false) × (b ≡ false)
or_parts true b never = absurd (true≢false never)
or_parts false b is = (refl, is)

pub words_more : (front rest : List ℕ) → has_byte 32 front ≡ false → words (front ++ 32 ∷ rest) ≡ front ∷ words rest
words_more [] rest none = refl
words_more (b ∷ front) rest none =
    let parts = or_parts (b == 32) (has_byte 32 front) none in
    ap (λ (t : Bool). cond t ([] ∷ words (front ++ 32 ∷ rest)) (onto_word b (words (front ++ 32 ∷ rest)))) parts.0
    ∙ ap (onto_word b) (words_more front rest parts.1)

pub words_one : (text : List ℕ) → has_byte 32 text ≡ false → words text ≡ text ∷ []
words_one [] none = refl
words_one (b ∷ text) none =
    let parts = or_parts (b == 32) (has_byte 32 text) none in
    ap (λ (t : Bool). cond t ([] ∷ words text) (onto_word b (words text))) parts.0 ∙ ap (onto_word b) (words_one text parts.1)

words_some : (text : List ℕ) → (word : List ℕ) × (more : List (List ℕ)) × (words text ≡ word ∷ more)
words_some [] = ([], [], refl)
words_some (b ∷ text) =
    let later = words_some text in
    elim (cases_Bool (b == 32)) [
      | inl space ↦ ([], words text, ap (λ (t : Bool). cond t ([] ∷ words text) (onto_word b (words text))) space)
      | inr other ↦
          (b ∷ later.0, later.1, ap (λ (t : Bool). cond t ([] ∷ words text) (onto_word b (words text))) other ∙ ap (onto_word b) later.2)
    ]

-- ---- the last but one, found from the front

-- the word that was read last, before those to come
abbrev pub before : Option (List ℕ) → List (List ℕ) → List (List ℕ)
before None ws = ws
before (Some word) ws = word ∷ ws

pub next_word : (read : Option (List ℕ)) (word more rest : List ℕ) → rest ≡ word ++ 32 ∷ more → has_byte 32 word ≡ false
    → last_but_one (before read (words rest)) ≡ last_but_one (before (Some word) (words more))
next_word None word more rest is none = ap (λ (t : List ℕ). last_but_one (words t)) is ∙ ap last_but_one (words_more word more none)
next_word (Some read) word more rest is none =
    let later = words_some more in
    ap (λ (t : List ℕ). last_but_one (read ∷ words t)) is ∙ ap (λ (ws : List (List ℕ)). last_but_one (read ∷ ws)) (words_more word more none)
    ∙ ap (λ (ws : List (List ℕ)). last_but_one (read ∷ (word ∷ ws))) later.2 ∙ ap (λ (ws : List (List ℕ)). last_but_one (word ∷ ws)) (sym later.2)

pub last_word : (read : Option (List ℕ)) (rest : List ℕ) → has_byte 32 rest ≡ false → last_but_one (before read (words rest)) ≡ read
last_word None rest none = ap last_but_one (words_one rest none)
last_word (Some read) rest none = ap (λ (ws : List (List ℕ)). last_but_one (read ∷ ws)) (words_one rest none)

-- ---- where it stands

-- the text ends in this word, a space and one word more
pub record Ends (text word : List ℕ) : Type 0 where
  pub front : List ℕ
  pub zone : List ℕ
  pub is : text ≡ front ++ (word ++ 32 ∷ zone)
  pub begins : BeginsWord front
  pub last : has_byte 32 zone ≡ false

alone : (text x : List ℕ) → words text ≡ x ∷ [] → has_byte 32 text ≡ false
alone [] x is = refl
alone (b ∷ text) x is =
    let later = words_some text in
    elim (cases_Bool (b == 32)) [
      | inl space ↦
          let two : [] ∷ (later.0 ∷ later.1) ≡ x ∷ [] =
          ap (λ (ws : List (List ℕ)). [] ∷ ws) (sym later.2) ∙ sym (ap (λ (t : Bool). cond t ([] ∷ words text) (onto_word b (words text))) space) ∙ is in
          absurd (cc two)
      | inr other ↦
          let one : (b ∷ later.0) ∷ later.1 ≡ x ∷ [] =
          ap (onto_word b) (sym later.2) ∙ sym (ap (λ (t : Bool). cond t ([] ∷ words text) (onto_word b (words text))) other) ∙ is in
          let none : later.1 ≡ [] = cc one in
          ap (λ (t : Bool). t || has_byte 32 text) other ∙ alone text later.0 (later.2 ∙ ap (λ (ws : List (List ℕ)). later.0 ∷ ws) none)
    ]

-- several bytes in front of the first word
abbrev onto : List ℕ → List (List ℕ) → List (List ℕ)
onto w [] = []
onto w (x ∷ xs) = (w ++ x) ∷ xs

begins_later : (w front : List ℕ) → BeginsWord front → BeginsWord (w ++ 32 ∷ front)
begins_later w front begins = elim begins [
  | inl none ↦ inr (w, ap (λ (t : List ℕ). w ++ 32 ∷ t) none)
  | inr some ↦ inr (w ++ 32 ∷ some.0, ap (λ (t : List ℕ). w ++ 32 ∷ t) some.1 ∙ sym (append_assoc w (32 ∷ some.0) (32 ∷ [])))
]

at_space : (w text word x : List ℕ) (xs : List (List ℕ)) → words text ≡ x ∷ xs → last_but_one ((w ++ []) ∷ words text) ≡ Some word
    → (last_but_one (words text) ≡ Some word → Ends text word) → Ends (w ++ 32 ∷ text) word
at_space w text word x [] one here later =
    let is : Some (w ++ []) ≡ Some word = sym (ap (λ (ws : List (List ℕ)). last_but_one ((w ++ []) ∷ ws)) one) ∙ here in
    let same : w ++ [] ≡ word = cc is in
    record {
      front = [];
      zone = text;
      is = ap (λ (t : List ℕ). t ++ 32 ∷ text) (sym (append-nil w) ∙ same);
      begins = inl refl;
      last = alone text x one;
    }
at_space w text word x (y ∷ ys) more here later =
    let is : last_but_one (x ∷ (y ∷ ys)) ≡ Some word = sym (ap (λ (ws : List (List ℕ)). last_but_one ((w ++ []) ∷ ws)) more) ∙ here in
    let ends = later (ap last_but_one more ∙ is) in
    record {
      front = w ++ 32 ∷ ends.front;
      zone = ends.zone;
      is = ap (λ (t : List ℕ). w ++ 32 ∷ t) ends.is ∙ sym (append_assoc w (32 ∷ ends.front) (word ++ 32 ∷ ends.zone));
      begins = begins_later w ends.front ends.begins;
      last = ends.last;
    }

found_end : (text w word : List ℕ) → last_but_one (onto w (words text)) ≡ Some word → Ends (w ++ text) word
found_end [] w word is = let never : None ≡ Some word = is in absurd (cc never)
found_end (b ∷ text) w word is =
    let all = words_some text in
    elim (cases_Bool (b == 32)) [
      | inl space ↦
          let here : last_but_one ((w ++ []) ∷ words text) ≡ Some word =
          sym (ap (λ (t : Bool). last_but_one (onto w (cond t ([] ∷ words text) (onto_word b (words text))))) space) ∙ is in
          let later : last_but_one (words text) ≡ Some word → Ends text word =
          λ there. found_end text [] word (ap (λ (ws : List (List ℕ)). last_but_one (onto [] ws)) all.2 ∙ sym (ap last_but_one all.2) ∙ there) in
          subst (λ (c : ℕ). Ends (w ++ c ∷ text) word) (sym (eqb-true b 32 space)) (at_space w text word all.0 all.1 all.2 here later)
      | inr other ↦
          let here : last_but_one (onto w (onto_word b (words text))) ≡ Some word =
          sym (ap (λ (t : Bool). last_but_one (onto w (cond t ([] ∷ words text) (onto_word b (words text))))) other) ∙ is in
          let moved : last_but_one (onto (w ++ b ∷ []) (words text)) ≡ Some word =
          ap (λ (ws : List (List ℕ)). last_but_one (onto (w ++ b ∷ []) ws)) all.2
          ∙ ap (λ (t : List ℕ). last_but_one (t ∷ all.1)) (append_assoc w (b ∷ []) all.0)
          ∙ sym (ap (λ (ws : List (List ℕ)). last_but_one (onto w (onto_word b ws))) all.2) ∙ here in
          subst (λ (t : List ℕ). Ends t word) (append_assoc w (b ∷ []) text) (found_end text (w ++ b ∷ []) word moved)
    ]

pub end_of : (text word : List ℕ) → last_but_one (words text) ≡ Some word → Ends text word
end_of text word is =
    let all = words_some text in
    found_end text [] word (ap (λ (ws : List (List ℕ)). last_but_one (onto [] ws)) all.2 ∙ sym (ap last_but_one all.2) ∙ is)

pub words_behind : (who rest : List ℕ) → (x : List ℕ) × (xs : List (List ℕ)) × (words (who ++ 32 ∷ rest) ≡ x ∷ (xs ++ words rest))
words_behind [] rest = ([], [], refl)
words_behind (b ∷ who) rest =
    let later = words_behind who rest in
    let all = words (who ++ 32 ∷ rest) in
    elim (cases_Bool (b == 32)) [
      | inl space ↦
          ([], later.0 ∷ later.1, ap (λ (t : Bool). cond t ([] ∷ all) (onto_word b all)) space ∙ ap (λ (ws : List (List ℕ)). [] ∷ ws) later.2)
      | inr other ↦
          (b ∷ later.0, later.1, ap (λ (t : Bool). cond t ([] ∷ all) (onto_word b all)) other ∙ ap (onto_word b) later.2)
    ]

some_more : (xs : List (List ℕ)) (a z : List ℕ) → (y : List ℕ) × (ys : List (List ℕ)) × (xs ++ (a ∷ (z ∷ [])) ≡ y ∷ ys)
some_more [] a z = (a, z ∷ [], refl)
some_more (y ∷ xs) a z = (y, xs ++ (a ∷ (z ∷ [])), refl)

pub last_two : (x : List ℕ) (xs : List (List ℕ)) (a z : List ℕ) → last_but_one (x ∷ (xs ++ (a ∷ (z ∷ [])))) ≡ Some a
last_two x [] a z = refl
last_two x (y ∷ xs) a z =
    let later = some_more xs a z in
    ap (λ (ws : List (List ℕ)). last_but_one (x ∷ (y ∷ ws))) later.2 ∙ ap (λ (ws : List (List ℕ)). last_but_one (y ∷ ws)) (sym later.2)
    ∙ last_two y xs a z
