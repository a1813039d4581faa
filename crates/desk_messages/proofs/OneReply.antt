-- A text is of one reply.
use Rattle.std.proofs.Common.{◌≡◌, ◌<◌, ◌+◌, ◌/◌, ◌%◌, ◌^◌, ◌==◌, ◌||◌, ℕ, List, [], ◌∷◌, ◌++◌, Bool, false, length, drop, get_or, codes, sym, ap, subst, ◌∙◌, append_assoc, arith}
use Rattle.std.specs.Prelude.{decimal}
use Rattle.std.proofs.lemmas.Bool.{ne_eqb}
use Rattle.std.proofs.lemmas.Fmt.{decimal_by_steps, decimal_injective}
use Rattle.std.proofs.lemmas.List.{append-nil}
use Rattle.text_reader.specs.Line.{has_byte}
use Rattle.text_reader.proofs.Unique.{no_byte, same_front, same_fronts, same_until}
use Rattle.desk_messages.specs.ReplyLaws.{OneReply}
use Rattle.desk_messages.specs.Texts.{phrase_of, reply_text}

one_digit : (d : ℕ) → has_byte 13 ((48 + d) ∷ []) ≡ false
one_digit d = let other : (48 + d == 13) ≡ false = ne_eqb (48 + d) 13 (λ e. omega arith) in ap (λ (t : Bool). t || false) other

digits_line : (n : ℕ) → n < 2 ^ 64 → has_byte 13 (decimal n) ≡ false
digits_line n small =
    decimal_by_steps (λ m digits. has_byte 13 digits ≡ false) (λ m h. one_digit m)
    (λ m digits h before. no_byte 13 digits ((48 + m % 10) ∷ []) before (one_digit (m % 10))) n small

abbrev middle : List ℕ
middle = codes "\r\ncontent-type: text/plain\r\ncontent-length: "

abbrev ending : List ℕ
ending = codes "\nconnection: close\r\n\r\n"

six : (p m d t b r : List ℕ) → p ++ m ++ d ++ t ++ b ++ r ≡ p ++ (m ++ (d ++ (t ++ (b ++ r))))
six p m d t b r = simp append_assoc

five : (p m d t b : List ℕ) → p ++ m ++ d ++ t ++ b ≡ p ++ (m ++ (d ++ (t ++ b)))
five p m d t b = simp append_assoc

behind : (p m t d f body other more : List ℕ) → has_byte 13 d ≡ false → has_byte 13 f ≡ false
    → p ++ m ++ d ++ 13 ∷ t ++ body ++ more ≡ p ++ m ++ f ++ 13 ∷ t ++ other → (d ≡ f) × (body ++ more ≡ other)
behind p m t d f body other more d_line f_line e =
    let right : p ++ (m ++ (d ++ (13 ∷ t ++ (body ++ more)))) ≡ p ++ (m ++ (f ++ (13 ∷ t ++ other))) =
    sym (six p m d (13 ∷ t) body more) ∙ e ∙ five p m f (13 ∷ t) other in
    let rest : d ++ 13 ∷ (t ++ (body ++ more)) ≡ f ++ 13 ∷ (t ++ other) =
    same_front m (d ++ (13 ∷ t ++ (body ++ more))) (f ++ (13 ∷ t ++ other)) (same_front p (m ++ (d ++ (13 ∷ t ++ (body ++ more)))) (m ++ (f ++ (13 ∷ t ++ other))) right) in
    let parts = same_until 13 d f (t ++ (body ++ more)) (t ++ other) d_line f_line rest in
    (parts.0, same_front t (body ++ more) other parts.1)

pub only : OneReply
only a b body other more small low e =
    let hundreds : 48 + a / 100 ≡ 48 + b / 100 = ap (λ (l : List ℕ). get_or l 9 0) e in
    let tens : 48 + a / 10 % 10 ≡ 48 + b / 10 % 10 = ap (λ (l : List ℕ). get_or l 10 0) e in
    let ones : 48 + a % 10 ≡ 48 + b % 10 = ap (λ (l : List ℕ). get_or l 11 0) e in
    let same : a ≡ b = omega (arith, hundreds, tens, ones) in
    let of_one : reply_text b body ++ more ≡ reply_text b other = subst (λ (k : ℕ). reply_text k body ++ more ≡ reply_text b other) same e in
    let tails : phrase_of b ++ middle ++ decimal (length body) ++ 13 ∷ ending ++ body ++ more ≡ phrase_of b ++ middle ++ decimal (length other) ++ 13 ∷ ending ++ other = ap (drop 13) of_one in
    let parts = behind (phrase_of b) middle ending (decimal (length body)) (decimal (length other)) body other more (digits_line (length body) small) (digits_line (length other) low) tails in
    let long : length body ≡ length other = decimal_injective (length body) (length other) small low parts.0 in
    (same, (same_fronts body other more [] long (parts.1 ∙ sym (append-nil other))).0)
