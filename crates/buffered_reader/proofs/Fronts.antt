-- What is ahead of a reader, and past its limit, as bytes are taken off the front.
use Rattle.std.proofs.Common.{◌≡◌, ℕ, ◌+◌, ◌-◌, ◌≤◌, ◌<◌, List, [], ◌∷◌, ◌++◌, ◌≢◌, ◌||◌, Bool, false, length, take, drop, get_or, Option, Some, None, refl, sym, ap, subst, ◌∙◌, append_assoc, arith, length-append}
use Rattle.std.specs.Prelude.{IfSome}
use Rattle.std.proofs.lemmas.List.{drop-drop, drop-take, length-take, length-take-le, take-append-drop, take_all}
use Rattle.std.proofs.Math.Seq.{take-append-add, drop-append-add}
use Rattle.std.proofs.lemmas.Bool.{ne_eqb}
use Rattle.octets.specs.Content.{with_front}
use Rattle.text_reader.proofs.Unique.{no_byte}
use Rattle.text_reader.specs.Line.{has_byte}
use Rattle.buffered_reader.specs.Lines.{IsLong}
use Rattle.buffered_reader.specs.Ahead.{Reading, ahead, past}

-- a part of a buffer whose first bytes were taken
pub passed : (b : List ℕ) (from to count : ℕ) → count ≤ to - from → take (to - (from + count)) (drop (from + count) b) ≡ drop count (take (to - from) (drop from b))
passed b from to count small =
    let whole : to - from ≡ count + (to - (from + count)) = omega arith in
    sym (ap (λ (k : ℕ). drop count (take k (drop from b))) whole ∙ drop-take count (to - (from + count)) (drop from b)
    ∙ ap (take (to - (from + count))) (drop-drop count from b))

pub part_short : (n : ℕ) (xs : List ℕ) → length (take n xs) ≤ n
part_short n xs = omega (arith, length-take n xs)

abbrev reading : List ℕ → ℕ → ℕ → Reading
reading buffered taken limit = record { buffered = buffered; taken = taken; limit = limit }

pub front_taken : (a b : List ℕ) (taken limit : ℕ) (left : Option (List ℕ)) → taken + length a ≤ limit
    → ahead (reading (a ++ b) taken limit) left ≡ with_front a (ahead (reading b (taken + length a) limit) left)
unfolding ahead
front_taken a b taken limit None small = refl
front_taken a b taken limit (Some rest) small =
    let more : limit - taken ≡ length a + (limit - (taken + length a)) = omega arith in
    ap Some (ap (λ (k : ℕ). take k ((a ++ b) ++ rest)) more ∙ ap (take (length a + (limit - (taken + length a)))) (append_assoc a b rest)
    ∙ take-append-add a (b ++ rest) (limit - (taken + length a)))

pub front_past : (a b : List ℕ) (taken limit : ℕ) (left : Option (List ℕ)) → taken + length a ≤ limit
    → past (reading (a ++ b) taken limit) left ≡ past (reading b (taken + length a) limit) left
unfolding past
front_past a b taken limit None small = refl
front_past a b taken limit (Some rest) small =
    let more : limit - taken ≡ length a + (limit - (taken + length a)) = omega arith in
    ap Some (ap (λ (k : ℕ). drop k ((a ++ b) ++ rest)) more ∙ ap (drop (length a + (limit - (taken + length a)))) (append_assoc a b rest)
    ∙ drop-append-add a (b ++ rest) (limit - (taken + length a)))

-- bytes that went from the source into the empty buffer
pub refilled : (new : List ℕ) (taken limit : ℕ) (left : Option (List ℕ)) → ahead (reading new taken limit) left ≡ ahead (reading [] taken limit) (with_front new left)
unfolding ahead
refilled new taken limit None = refl
refilled new taken limit (Some rest) = refl

pub refilled_past : (new : List ℕ) (taken limit : ℕ) (left : Option (List ℕ)) → past (reading new taken limit) left ≡ past (reading [] taken limit) (with_front new left)
unfolding past
refilled_past new taken limit None = refl
refilled_past new taken limit (Some rest) = refl

append_none : (a : List ℕ) → a ++ [] ≡ a
append_none [] = refl
append_none (x ∷ a) = ap (λ (rest : List ℕ). x ∷ rest) (append_none a)

-- bytes that went from the source past the empty buffer
pub straight : (new : List ℕ) (taken limit : ℕ) (left : Option (List ℕ)) → taken + length new ≤ limit
    → ahead (reading [] taken limit) (with_front new left) ≡ with_front new (ahead (reading [] (taken + length new) limit) left)
straight new taken limit left small =
    sym (refilled new taken limit left) ∙ ap (λ (b : List ℕ). ahead (reading b taken limit) left) (sym (append_none new)) ∙ front_taken new [] taken limit left small

pub straight_past : (new : List ℕ) (taken limit : ℕ) (left : Option (List ℕ)) → taken + length new ≤ limit
    → past (reading [] taken limit) (with_front new left) ≡ past (reading [] (taken + length new) limit) left
straight_past new taken limit left small =
    sym (refilled_past new taken limit left) ∙ ap (λ (b : List ℕ). past (reading b taken limit) left) (sym (append_none new)) ∙ front_past new [] taken limit left small

-- at the limit, and at the end of the source, nothing is ahead
pub none_at_limit : (r : Reading) (left : Option (List ℕ)) → r.limit ≤ r.taken → IfSome (ahead r left) (λ rest. rest ≡ [])
unfolding ahead
none_at_limit r None full = tt
none_at_limit r (Some rest) full =
    let none : r.limit - r.taken ≡ 0 = omega arith in ap (λ (k : ℕ). take k (r.buffered ++ rest)) none

take_none : (k : ℕ) (xs : List ℕ) → xs ≡ [] → take k xs ≡ []
take_none k xs e = ap (take k) e ∙ nothing k
  where
    nothing : (n : ℕ) → take {A = ℕ} n [] ≡ []
    nothing n = take_all n [] (omega arith)

pub none_at_end : (taken limit : ℕ) (left : Option (List ℕ)) → IfSome left (λ rest. rest ≡ []) → IfSome (ahead (reading [] taken limit) left) (λ rest. rest ≡ [])
unfolding ahead
none_at_end taken limit None end = tt
none_at_end taken limit (Some rest) end = take_none (limit - taken) rest end

-- ---- the same of a reader before and after a call

module _ (r s : Reading) (left now : Option (List ℕ)) where
  -- bytes were taken off the front of the buffer
  pub pass_ahead : (count : ℕ) → s ≡ record r { buffered = drop count r.buffered; taken = r.taken + count } → count ≤ length r.buffered → r.taken + length r.buffered ≤ r.limit
      → ahead r left ≡ with_front (take count r.buffered) (ahead s left)
  pass_ahead count after small limited =
      let long : length (take count r.buffered) ≡ count = length-take-le count r.buffered small in
      ap (λ (b : List ℕ). ahead (reading b r.taken r.limit) left) (sym (take-append-drop count r.buffered))
      ∙ front_taken (take count r.buffered) (drop count r.buffered) r.taken r.limit left (omega arith)
      ∙ ap (λ (k : ℕ). with_front (take count r.buffered) (ahead (reading (drop count r.buffered) (r.taken + k) r.limit) left)) long
      ∙ ap (λ (t : Reading). with_front (take count r.buffered) (ahead t left)) (sym after)

  pub pass_past : (count : ℕ) → s ≡ record r { buffered = drop count r.buffered; taken = r.taken + count } → count ≤ length r.buffered → r.taken + length r.buffered ≤ r.limit
      → past s left ≡ past r left
  pass_past count after small limited =
      let long : length (take count r.buffered) ≡ count = length-take-le count r.buffered small in
      sym (ap (λ (b : List ℕ). past (reading b r.taken r.limit) left) (sym (take-append-drop count r.buffered))
      ∙ front_past (take count r.buffered) (drop count r.buffered) r.taken r.limit left (omega arith)
      ∙ ap (λ (k : ℕ). past (reading (drop count r.buffered) (r.taken + k) r.limit) left) long
      ∙ ap (λ (t : Reading). past t left) (sym after))

  -- bytes went from the source into the empty buffer
  pub filled_ahead : r.buffered ≡ [] → s.taken ≡ r.taken → s.limit ≡ r.limit → left ≡ with_front s.buffered now → ahead s now ≡ ahead r left
  filled_ahead none taken limit read =
      refilled s.buffered s.taken s.limit now ∙ (λ i. ahead (reading (sym none i) (taken i) (limit i)) (sym read i))

  pub filled_past : r.buffered ≡ [] → s.taken ≡ r.taken → s.limit ≡ r.limit → left ≡ with_front s.buffered now → past s now ≡ past r left
  filled_past none taken limit read =
      refilled_past s.buffered s.taken s.limit now ∙ (λ i. past (reading (sym none i) (taken i) (limit i)) (sym read i))

  -- bytes went from the source past the empty buffer
  pub straight_ahead : (new : List ℕ) (count : ℕ) → length new ≡ count → r.buffered ≡ [] → s ≡ record r { taken = r.taken + count } → left ≡ with_front new now → r.taken + count ≤ r.limit
      → ahead r left ≡ with_front new (ahead s now)
  straight_ahead new count long none after read small =
      (λ i. ahead (reading (none i) r.taken r.limit) (read i)) ∙ straight new r.taken r.limit now (omega arith)
      ∙ (λ i. with_front new (ahead (reading (sym none i) (r.taken + long i) r.limit) now))
      ∙ ap (λ (t : Reading). with_front new (ahead t now)) (sym after)

  pub straight_on : (new : List ℕ) (count : ℕ) → length new ≡ count → r.buffered ≡ [] → s ≡ record r { taken = r.taken + count } → left ≡ with_front new now → r.taken + count ≤ r.limit
      → past s now ≡ past r left
  straight_on new count long none after read small =
      sym ((λ i. past (reading (none i) r.taken r.limit) (read i)) ∙ straight_past new r.taken r.limit now (omega arith)
      ∙ (λ i. past (reading (sym none i) (r.taken + long i) r.limit) now)
      ∙ ap (λ (t : Reading). past t now) (sym after))

-- the source is at its end, and nothing is buffered
pub ended : (r : Reading) (left : Option (List ℕ)) → r.buffered ≡ [] → IfSome left (λ rest. rest ≡ []) → IfSome (ahead r left) (λ rest. rest ≡ [])
ended r left none end =
    subst (λ (b : List ℕ). IfSome (ahead (reading b r.taken r.limit) left) (λ rest. rest ≡ [])) (sym none) (none_at_end r.taken r.limit left end)

-- the first byte of a list that is not empty
pub first_byte : (xs : List ℕ) → 0 < length xs → take 1 xs ≡ get_or xs 0 0 ∷ []
first_byte [] some = absurd (omega arith)
first_byte (x ∷ xs) some = refl

-- ---- at the limit

drop_all : (k : ℕ) (xs : List ℕ) → k ≡ 0 → drop k xs ≡ xs
drop_all k xs e = ap (λ (n : ℕ). drop n xs) e

none_left : (k : ℕ) (xs : List ℕ) → 0 < k → take k xs ≡ [] → xs ≡ []
none_left k [] more none = refl
none_left k (x ∷ xs) more none = absurd (omega (arith, length-take k (x ∷ xs), ap length none))

-- nothing is buffered or ahead, and the limit is not reached: the source is at its end
pub ends_below : (r : Reading) (left : Option (List ℕ)) → r.taken < r.limit → r.buffered ≡ [] → IfSome (ahead r left) (λ rest. rest ≡ []) → IfSome left (λ rest. rest ≡ [])
unfolding ahead
ends_below r None more none end = tt
ends_below r (Some rest) more none end =
    let whole : r.buffered ++ rest ≡ [] = none_left (r.limit - r.taken) (r.buffered ++ rest) (omega arith) end in
    sym (ap (λ (b : List ℕ). b ++ rest) none) ∙ whole

-- the limit is reached, and nothing is buffered: what the source has lies past it
pub past_limit : (r : Reading) (left : Option (List ℕ)) → r.limit ≤ r.taken → r.buffered ≡ [] → past r left ≡ left
unfolding past
past_limit r None full none = refl
past_limit r (Some rest) full none = ap Some (drop_all (r.limit - r.taken) (r.buffered ++ rest) (omega arith) ∙ ap (λ (b : List ℕ). b ++ rest) none)

-- the limit is reached, so nothing is buffered
pub none_buffered : (b : List ℕ) (taken limit : ℕ) → taken + length b ≤ limit → limit ≤ taken → b ≡ []
none_buffered [] taken limit limited full = refl
none_buffered (x ∷ b) taken limit limited full = absurd (omega arith)

-- ---- pieces one after the other

-- what begins with a byte goes on
pub goes_on : (told after : Option (List ℕ)) (bytes : List ℕ) → told ≡ with_front bytes after → 0 < length bytes → IfSome told (λ rest. rest ≢ [])
goes_on told None bytes e some = subst (λ (o : Option (List ℕ)). IfSome o (λ rest. rest ≢ [])) (sym e) tt
goes_on told (Some rest) bytes e some = subst (λ (o : Option (List ℕ)). IfSome o (λ rest. rest ≢ [])) (sym e) (λ none. omega (arith, length-append bytes rest, ap length none))

-- 399 bytes of a line, and one more that is no line feed
pub too_long : (told after : Option (List ℕ)) (line : List ℕ) (byte : ℕ) → told ≡ with_front (line ++ byte ∷ []) after → has_byte 10 line ≡ false → length line ≡ 399 → byte ≢ 10 → IfSome told IsLong
too_long told None line byte e one long other = subst (λ (o : Option (List ℕ)). IfSome o IsLong) (sym e) tt
too_long told (Some rest) line byte e one long other = subst (λ (o : Option (List ℕ)). IfSome o IsLong) (sym e) (record {
  front = line ++ byte ∷ [];
  more = rest;
  whole = refl;
  one = no_byte 10 line (byte ∷ []) one (ap (λ (t : Bool). t || false) (ne_eqb byte 10 other));
  long = omega (arith, length-append line (byte ∷ []));
})
