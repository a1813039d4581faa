-- Two lists that are alike up to a place.
use Rattle.std.proofs.Common.{◌≡◌, ◌≢◌, ◌≤◌, ◌<◌, ◌+◌, ◌++◌, ℕ, suc, List, [], ◌∷◌, length, get_or, take, drop, sym, ap, ◌∙◌, arith, drop-cons}
use Rattle.std.proofs.lemmas.List.{get_or_default, length-take-le, take-append-drop, take_all, take_more_same}
use Rattle.mirror.specs.Offering.{GoesOn, Part}

abbrev Names : Type 0
Names = List (List ℕ)

split_at : (xs : Names) (i : ℕ) (x : List ℕ) → i < length xs → x ≡ get_or xs i x → xs ≡ take i xs ++ x ∷ drop (suc i) xs
split_at xs i x within is =
    sym (take-append-drop i xs)
    ∙ ap (λ (rest : Names). take i xs ++ rest) (drop-cons xs i x within ∙ ap (λ (y : List ℕ). y ∷ drop (suc i) xs) (sym is))

pub parted : (kept offered : Names) (i : ℕ) (ours theirs : List ℕ) → i < length kept → i < length offered → take i kept ≡ take i offered
    → ours ≡ get_or kept i ours → theirs ≡ get_or offered i theirs → ours ≢ theirs → Part kept offered (i + 1) ours theirs
parted kept offered i ours theirs in_kept in_offered alike at_kept at_offered differ = record {
  front = take i kept;
  kept_rest = drop (suc i) kept;
  offered_rest = drop (suc i) offered;
  in_kept = split_at kept i ours in_kept at_kept;
  in_offered = split_at offered i theirs in_offered at_offered
      ∙ ap (λ (front : Names). front ++ theirs ∷ drop (suc i) offered) (sym alike);
  counts = let all : i ≤ length kept = omega arith in ap (λ (n : ℕ). n + 1) (sym (length-take-le i kept all));
  differ = differ;
}

-- the first is a front of the second
pub goes_on : (short long : Names) (i : ℕ) → length short ≤ i → i < length long → take i long ≡ take i short → GoesOn short long
goes_on short long i past within alike = record {
  next = get_or long i [];
  rest = drop (suc i) long;
  whole = split_at long i (get_or long i []) within (get_or_default long i [] (get_or long i []) within)
      ∙ ap (λ (front : Names). front ++ get_or long i [] ∷ drop (suc i) long) (alike ∙ take_all i short past);
}

pub one_list : (kept offered : Names) → length kept ≡ length offered → take (length kept) kept ≡ take (length kept) offered → offered ≡ kept
one_list kept offered long alike =
    let all : length kept ≤ length kept = omega arith in
    let past : length offered ≤ length kept = omega arith in
    sym (take_all (length kept) offered past) ∙ sym alike ∙ take_all (length kept) kept all

-- one more is alike
pub one_more : (kept offered : Names) (i : ℕ) (x y : List ℕ) → i < length kept → i < length offered → take i kept ≡ take i offered
    → x ≡ get_or kept i x → y ≡ get_or offered i y → x ≡ y → take (i + 1) kept ≡ take (i + 1) offered
one_more kept offered i x y in_kept in_offered alike at_kept at_offered same =
    take_more_same kept offered i x in_kept in_offered alike
    (sym at_kept ∙ same ∙ at_offered ∙ get_or_default offered i y x in_offered)
