-- A body under its word and size: what is read in front of a text is the only one that could stand there.
use Rattle.std.proofs.Common.{◌≡◌, ◌≤◌, ◌<◌, ◌^◌, ℕ, false, List, [], ◌∷◌, ◌++◌, length, sym, ap, subst, ◌∙◌, arith, append_assoc}
use Rattle.std.specs.Prelude.{decimal, Result, Err}
use Rattle.git_object.specs.Repository.{largest_body}
use Rattle.text_reader.specs.Line.{has_byte}
use Rattle.text_reader.specs.Number.{IsNumber, number_of}
use Rattle.text_reader.specs.declared.number.NumberFault.{NumberFault}
use Rattle.text_reader.specs.declared.number.NumberFault.TheVariants.{NotNumber, TooLarge}
use Rattle.text_reader.proofs.Numbers.{decimal_is_number, number_of-decimal}
use Rattle.text_reader.proofs.Unique.{decimal_line, same_front, same_fronts, same_until}
use Rattle.evidence.specs.Breaks.{IsSide}
use Rattle.evidence.specs.Dossiers.{side_text}

pub side_then : (word body more : List ℕ) → side_text word body ++ more ≡ word ++ (decimal (length body) ++ 10 ∷ (body ++ 10 ∷ more))
unfolding side_text
side_then word body more =
    append_assoc word (decimal (length body) ++ 10 ∷ (body ++ 10 ∷ [])) more
    ∙ ap (λ (r : List ℕ). word ++ r) (append_assoc (decimal (length body)) (10 ∷ (body ++ 10 ∷ [])) more
    ∙ ap (λ (r : List ℕ). decimal (length body) ++ 10 ∷ r) (append_assoc body (10 ∷ []) more))

low : (n : ℕ) → n ≤ largest_body → n < 2 ^ 64
low n small = omega (arith, small)

pub size_one_line : (body : List ℕ) → length body ≤ largest_body → has_byte 10 (decimal (length body)) ≡ false
size_one_line body small = decimal_line (length body) (low (length body) small)

-- the digits and what follows, of one text
pub same_size_line : (words digits rest body more : List ℕ) → length body ≤ largest_body → has_byte 10 digits ≡ false → words ≡ digits ++ 10 ∷ rest
    → words ≡ decimal (length body) ++ 10 ∷ (body ++ 10 ∷ more) → (digits ≡ decimal (length body)) × (rest ≡ body ++ 10 ∷ more)
same_size_line words digits rest body more small line found same =
    same_until 10 digits (decimal (length body)) rest (body ++ 10 ∷ more) line (size_one_line body small) (sym found ∙ same)

-- digits that write one number within the limit
pub is_size : (digits body : List ℕ) → length body ≤ largest_body → digits ≡ decimal (length body) → IsNumber digits × (number_of digits ≡ length body)
is_size digits body small same = (
  subst IsNumber (sym same) (decimal_is_number (length body) (low (length body) small)),
  ap number_of same ∙ number_of-decimal (length body) (low (length body) small),
)

pub same_number : (m n : ℕ) → m ≤ largest_body → n ≤ largest_body → decimal m ≡ decimal n → m ≡ n
same_number m n sm sn e = sym (number_of-decimal m (low m sm)) ∙ ap number_of e ∙ number_of-decimal n (low n sn)

after_feed : (x y : List ℕ) → 10 ∷ x ≡ 10 ∷ y → x ≡ y
after_feed x y e = cc

pub same_side : (word a b x y : List ℕ) → length a ≤ largest_body → length b ≤ largest_body → side_text word a ++ x ≡ side_text word b ++ y → (a ≡ b) × (x ≡ y)
same_side word a b x y sa sb e =
    let after = same_front word (decimal (length a) ++ 10 ∷ (a ++ 10 ∷ x)) (decimal (length b) ++ 10 ∷ (b ++ 10 ∷ y)) (sym (side_then word a x) ∙ e ∙ side_then word b y) in
    let line = same_until 10 (decimal (length a)) (decimal (length b)) (a ++ 10 ∷ x) (b ++ 10 ∷ y) (size_one_line a sa) (size_one_line b sb) after in
    let bodies = same_fronts a b (10 ∷ x) (10 ∷ y) (same_number (length a) (length b) sa sb line.0) line.1 in
    (bodies.0, after_feed x y bodies.1)

-- what stands behind the word
pub side_words : (text word words part more : List ℕ) → text ≡ word ++ words → (is : IsSide word part) → text ≡ part ++ more
    → words ≡ decimal (length is.body) ++ 10 ∷ (is.body ++ 10 ∷ more)
side_words text word words part more found is same =
    same_front word words (decimal (length is.body) ++ 10 ∷ (is.body ++ 10 ∷ more)) (sym found ∙ same ∙ ap (λ (p : List ℕ). p ++ more) is.is ∙ side_then word is.body more)

-- digits that are refused write no size of a body within the limit
pub no_size : (digits body : List ℕ) (result : Result ℕ NumberFault) (fault : NumberFault) → result ≡ Err fault → (result ≡ Err NotNumber → IsNumber digits → ⊥)
    → (result ≡ Err TooLarge → IsNumber digits × (largest_body < number_of digits)) → length body ≤ largest_body → digits ≡ decimal (length body) → ⊥
no_size digits body result NotNumber is none huge small same = none is (is_size digits body small same).0
no_size digits body result TooLarge is none huge small same =
    let past = (huge is).1 in
    let size = (is_size digits body small same).1 in
    omega (arith, past, size, small)

-- the body and what follows, of one text
pub same_body : (rest front end body more : List ℕ) → rest ≡ front ++ end → length front ≡ length body → rest ≡ body ++ 10 ∷ more → end ≡ 10 ∷ more
same_body rest front end body more found long same = (same_fronts front body end (10 ∷ more) long (sym found ∙ same)).1

pub side_found : (text word words digits rest body end more : List ℕ) → text ≡ word ++ words → words ≡ digits ++ 10 ∷ rest → digits ≡ decimal (length body) → rest ≡ body ++ end → end ≡ 10 ∷ more
    → text ≡ side_text word body ++ more
side_found text word words digits rest body end more found line size parts feed =
    found ∙ ap (λ (r : List ℕ). word ++ r) (line ∙ ap (λ (d : List ℕ). d ++ 10 ∷ rest) size ∙ ap (λ (r : List ℕ). decimal (length body) ++ 10 ∷ r) (parts ∙ ap (λ (r : List ℕ). body ++ r) feed))
    ∙ sym (side_then word body more)
