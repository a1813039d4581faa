-- What the members of a disk in memory say of one another.
use Rattle.std.specs.Prelude.{◌≡◌, ◌+◌, ◌<◌, ◌≤◌, ◌-◌, ◌++◌, ℕ, suc, List, [], ◌∷◌, length, take, drop, min, Some}
use Rattle.std.proofs.Common.{arith, refl, inl, inr, subst, ap, ◌∙◌, get_or}
use Rattle.std.proofs.lemmas.List.{get_or-append_right, get_or-drop, get_or-take, get_or_append_left, length-append}
use Rattle.std.proofs.lemmas.List.{length-drop, length-take, length-take-le}
use Rattle.edge_io.specs.Disk.{Torn, Written}
use Rattle.edge_io.specs.Recorded.{LeftSince, MayLeave, Step, seen_after, splice, synced, wrote}

-- this moment is one of those since an earlier one
pub left_now : (start : List ℕ) (steps : List Step) (t : ℕ) (c : List ℕ) → MayLeave start steps c
    → LeftSince start steps t c
left_now start [] t c may = may
left_now start (step ∷ earlier) t c may = inl may

-- since this moment there is no other
pub is_left : (start : List ℕ) (steps : List Step) (c : List ℕ) → LeftSince start steps (length steps) c
    → MayLeave start steps c
is_left start [] c left = left
is_left start (step ∷ earlier) c (inl now) = now
is_left start (step ∷ earlier) c (inr past) =
    absurd (let le : suc (length earlier) ≤ length earlier = past.0 in omega arith)

-- how long the file is with these bytes at an offset
spliced_len : (at : ℕ) (bytes file : List ℕ) → length (splice at bytes file) ≡ min at (length file) + length bytes
    + (length file - (at + length bytes))
spliced_len at bytes file =
    omega (
      arith,
      length-append (take at file ++ bytes) (drop (at + length bytes) file),
      length-append (take at file) bytes,
      length-take at file,
      length-drop (at + length bytes) file,
    )

spliced_below : (at : ℕ) (bytes file : List ℕ) (i : ℕ) → i < length file → i < at → get_or (splice at bytes file) i 0
    ≡ get_or file i 0
spliced_below at bytes file i within before =
    let low : i < length (take at file) = omega (arith, length-take at file) in
    let lower : i < length (take at file ++ bytes) = omega (arith, length-append (take at file) bytes) in
    get_or_append_left (take at file ++ bytes) (drop (at + length bytes) file) 0 i lower
    ∙ get_or_append_left (take at file) bytes 0 i low
    ∙ get_or-take at file i 0 before

spliced_above : (at : ℕ) (bytes file : List ℕ) (i : ℕ) → i < length file → at + length bytes ≤ i
    → get_or (splice at bytes file) i 0 ≡ get_or file i 0
spliced_above at bytes file i within after =
    let long : length (take at file ++ bytes) ≡ at + length bytes =
    omega (arith, length-append (take at file) bytes, length-take at file) in
    let same : at + length bytes + (i - (at + length bytes)) ≡ i = omega arith in
    get_or-append_right (take at file ++ bytes) (drop (at + length bytes) file) (at + length bytes) i 0 long after
    ∙ get_or-drop (at + length bytes) file (i - (at + length bytes)) 0
    ∙ ap (λ (k : ℕ). get_or file k 0) same

-- a write that was done is one that was not cut short
pub spliced : (at : ℕ) (bytes file : List ℕ) → Torn at (length bytes) file (splice at bytes file)
spliced at bytes file = record {
  no_shorter = omega (arith, spliced_len at bytes file);
  no_longer = omega (arith, spliced_len at bytes file);
  below = spliced_below at bytes file;
  above = spliced_above at bytes file;
}

-- and its bytes are there
pub spliced_whole : (at : ℕ) (bytes file : List ℕ) → at ≤ length file → Written at bytes file (splice at bytes file)
spliced_whole at bytes file within = record {
  has = λ i low.
      let front : length (take at file) ≡ at = length-take-le at file within in
      let lower : at + i < length (take at file ++ bytes) = omega (arith, length-append (take at file) bytes) in
      let place : at + i - at ≡ i = omega arith in
      let early : at ≤ at + i = omega arith in
      get_or_append_left (take at file ++ bytes) (drop (at + length bytes) file) 0 (at + i) lower
      ∙ get_or-append_right (take at file) bytes at (at + i) 0 front early
      ∙ ap (λ (k : ℕ). get_or bytes k 0) place;
  size = omega (arith, spliced_len at bytes file);
  torn = spliced at bytes file;
}

-- what is read may be left
pub reading_stays : (start : List ℕ) (steps : List Step) → MayLeave start steps (seen_after start steps)
reading_stays start [] = refl
reading_stays start (wrote at bytes ∷ earlier) =
    (seen_after start earlier, reading_stays start earlier, spliced at bytes (seen_after start earlier))
reading_stays start (synced ∷ earlier) = refl

pub seen_is : (start : List ℕ) (steps : List Step) (bytes : List ℕ) → Some (seen_after start steps) ≡ Some bytes
    → MayLeave start steps bytes
seen_is start steps bytes told =
    let same : seen_after start steps ≡ bytes = cc in
    subst (MayLeave start steps) same (reading_stays start steps)
