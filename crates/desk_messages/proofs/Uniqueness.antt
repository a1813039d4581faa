-- Bytes are one reply, or none for one cause; each push has one request.
use Rattle.std.proofs.Common.{◌≡◌, ◌<◌, ◌+◌, ◌%◌, ◌^◌, ◌==◌, ◌||◌, ℕ, List, [], ◌∷◌, ◌++◌, Bool, false, length, codes, refl, sym, ap, subst, ◌∙◌, append_assoc, arith}
use Rattle.std.specs.Prelude.{decimal}
use Rattle.std.proofs.lemmas.Bool.{ne_eqb}
use Rattle.std.proofs.lemmas.Fmt.{decimal_by_steps, decimal_injective}
use Rattle.text_reader.specs.Line.{has_byte}
use Rattle.text_reader.proofs.Unique.{no_byte, same_front, same_until}
use Rattle.httparse.specs.Grammar.{ResponseHead, status_code}
use Rattle.httparse.proofs.GrammarLemmas.{response_unique}
use Rattle.desk_messages.specs.ClientHeads.{HasHead, Says}
use Rattle.desk_messages.specs.ClientLaws.{OneCause, OneReading, OneRequest}
use Rattle.desk_messages.specs.Replies.{HasNoLength, HasOther, IsBad, IsReply}
use Rattle.desk_messages.specs.declared.replies.BadReply.{BadReply}
use Rattle.desk_messages.specs.declared.replies.BadReply.TheVariants as bad
use Rattle.desk_messages.proofs.ClientReading.{same_first}

one_head : (bytes : List ℕ) (h k : ResponseHead) (r q : List ℕ) → HasHead bytes h r → HasHead bytes k q → (h ≡ k) × (r ≡ q)
one_head bytes h k r q x y = response_unique bytes h k r q x.reads y.reads

pub one_reading : OneReading
one_reading bytes a b body other x y =
    let same = one_head bytes x.head y.head body other x.has y.has in
    (x.code_is ∙ ap status_code same.0 ∙ sym y.code_is, same.1)

-- a head says one length at most
one_said : (h : ResponseHead) (m n : ℕ) → Says h m → Says h n → m ≡ n
one_said h m n x y =
    let small = x.within in
    let low = y.within in
    decimal_injective m n (omega arith) (omega arith) (same_first (decimal m) (decimal n) (sym x.said ∙ y.said))

module _ (bytes : List ℕ) where
  not_other : {X : Type 0} (code : ℕ) (body : List ℕ) (said found : ℕ) → IsReply bytes code body → HasOther bytes said found → X
  not_other code body said found is o =
      let same = one_head bytes is.head o.head body o.rest is.has o.has in
      let one = one_said o.head said (length body) o.says (subst (λ (h : ResponseHead). Says h (length body)) same.0 is.says) in
      absurd (o.other (one ∙ ap length same.1 ∙ sym o.found_is))

  not_both : {X : Type 0} (len : ℕ) (h : ResponseHead) (rest : List ℕ) → HasHead bytes h rest → Says h len → HasNoLength bytes → X
  not_both len h rest has says n =
      let same = one_head bytes h n.head rest n.rest has n.has in
      absurd (n.none len (subst (λ (k : ResponseHead). Says k len) same.0 says))

  apart : (code : ℕ) (body : List ℕ) (why : BadReply) → IsReply bytes code body → IsBad bytes why → ⊥
  apart code body bad.NoHead is none = none is.head body is.has
  apart code body bad.NoLength is none = not_both (length body) is.head body is.has is.says none
  apart code body (bad.OtherLength said found) is other = not_other code body said found is other

  same_other : (s f t g : ℕ) → HasOther bytes s f → HasOther bytes t g → (s ≡ t) × (f ≡ g)
  same_other s f t g x y =
      let same = one_head bytes x.head y.head x.rest y.rest x.has y.has in
      (one_said y.head s t (subst (λ (h : ResponseHead). Says h s) same.0 x.says) y.says, x.found_is ∙ ap length same.1 ∙ sym y.found_is)

  one : (a b : BadReply) → IsBad bytes a → IsBad bytes b → a ≡ b
  one bad.NoHead bad.NoHead x y = refl
  one bad.NoHead bad.NoLength x y = absurd (x y.head y.rest y.has)
  one bad.NoHead (bad.OtherLength t g) x y = absurd (x y.head y.rest y.has)
  one bad.NoLength bad.NoHead x y = absurd (y x.head x.rest x.has)
  one bad.NoLength bad.NoLength x y = refl
  one bad.NoLength (bad.OtherLength t g) x y = not_both t y.head y.rest y.has y.says x
  one (bad.OtherLength s f) bad.NoHead x y = absurd (y x.head x.rest x.has)
  one (bad.OtherLength s f) bad.NoLength x y = not_both s x.head x.rest x.has x.says y
  one (bad.OtherLength s f) (bad.OtherLength t g) x y =
      let same = same_other s f t g x y in
      ap (λ (n : ℕ). bad.OtherLength n f) same.0 ∙ ap (bad.OtherLength t) same.1

pub one_cause : OneCause
one_cause = record { apart = apart; one = one }

-- ---- requests

one_digit : (d : ℕ) → has_byte 13 ((48 + d) ∷ []) ≡ false
one_digit d = let other : (48 + d == 13) ≡ false = ne_eqb (48 + d) 13 (λ e. omega arith) in ap (λ (t : Bool). t || false) other

digits_line : (n : ℕ) → n < 2 ^ 64 → has_byte 13 (decimal n) ≡ false
digits_line n small =
    decimal_by_steps (λ m digits. has_byte 13 digits ≡ false) (λ m h. one_digit m)
    (λ m digits h before. no_byte 13 digits ((48 + m % 10) ∷ []) before (one_digit (m % 10))) n small

abbrev front : List ℕ
front = codes "POST /v1/push HTTP/1.1\r\nhost: localhost\r\ncontent-length: "

abbrev ending : List ℕ
ending = codes "\n\r\n"

four : (p d t b : List ℕ) → p ++ d ++ t ++ b ≡ p ++ (d ++ (t ++ b))
four p d t b = simp append_assoc

behind : (p t d f body other : List ℕ) → has_byte 13 d ≡ false → has_byte 13 f ≡ false
    → p ++ d ++ 13 ∷ t ++ body ≡ p ++ f ++ 13 ∷ t ++ other → body ≡ other
behind p t d f body other d_line f_line e =
    let right : p ++ (d ++ (13 ∷ t ++ body)) ≡ p ++ (f ++ (13 ∷ t ++ other)) = sym (four p d (13 ∷ t) body) ∙ e ∙ four p f (13 ∷ t) other in
    let rest : d ++ 13 ∷ (t ++ body) ≡ f ++ 13 ∷ (t ++ other) = same_front p (d ++ (13 ∷ t ++ body)) (f ++ (13 ∷ t ++ other)) right in
    let parts = same_until 13 d f (t ++ body) (t ++ other) d_line f_line rest in
    same_front t body other parts.1

pub one_request : OneRequest
one_request push other small low e =
    behind front ending (decimal (length push)) (decimal (length other)) push other (digits_line (length push) small) (digits_line (length other) low) e
