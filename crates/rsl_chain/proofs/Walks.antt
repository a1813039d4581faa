-- The walk back from the tip: what is a log to here is with these the log to the tip, and where it breaks from here it breaks from the tip.
use Rattle.std.proofs.Common.{◌≡◌, inl, inr, ℕ, ◌+◌, ◌-◌, ◌<◌, ◌≤◌, List, [], ◌∷◌, ◌++◌, reverse, length, Option, Some, None, refl, sym, ap, subst, ◌∙◌, arith, append_assoc, append-nil}
use Rattle.std.specs.Prelude.{IfSome}
use Rattle.std.proofs.lemmas.Bool.{cases_eq}
use Rattle.std.proofs.lemmas.List.{length_push, reverse-append}
use Rattle.rsl_chain.specs.Chain.{AreLinked, BreaksFrom, Entries, IsBreak, IsHead, IsLog, Stands, last_of}
use Rattle.octets.specs.Causes.{one_more}
use Rattle.rsl_chain.specs.declared.heads.Head.{Head}
use Rattle.rsl_chain.proofs.Chains.{alone, behind, last_push}

-- so many entries stand behind, and so many are still wanted
abbrev pub IsFew : ℕ → Option ℕ → Type 0
IsFew done None = done ≡ 0
IsFew done (Some n) = (done + n ≤ 1000000) × (0 < n)

pub record Back (entries : Entries) (tip : List ℕ) (done : List (List ℕ)) (wanted : Option ℕ) (at : List ℕ) : Type 0 where
  pub log : (xs : List (List ℕ)) → AreLinked entries xs → last_of xs ≡ Some at → IfSome wanted (λ n. length xs ≡ n) → IsLog entries (Some tip) (xs ++ reverse done)
  pub broken : (bad : List ℕ) → BreaksFrom entries wanted at bad → BreaksFrom entries None tip bad

pub back_start : (entries : Entries) (tip : List ℕ) → Back entries tip [] None tip
back_start entries tip = record {
  log = λ xs linked last long. subst (IsLog entries (Some tip)) (sym (append-nil xs)) (record { linked = linked; last = last });
  broken = λ bad breaks. breaks;
}

turned : (xs done : List (List ℕ)) (at : List ℕ) → (xs ++ at ∷ []) ++ reverse done ≡ xs ++ reverse (done ++ at ∷ [])
turned xs done at = append_assoc xs (at ∷ []) (reverse done) ∙ ap (λ (t : List (List ℕ)). xs ++ t) (sym (reverse-append done (at ∷ [])))

pub back_next : (entries : Entries) (tip : List ℕ) (done : List (List ℕ)) (wanted : Option ℕ) (at parent : List ℕ) (head : Head)
    → Back entries tip done wanted at → entries at ≡ Some head → IsHead head → IfSome wanted (λ n. head.number ≡ n) → head.parent ≡ Some parent
    → Back entries tip (done ++ at ∷ []) (Some (head.number - 1)) parent
back_next entries tip done wanted at parent head back read is number has = record {
  log = λ xs linked last long.
      subst (IsLog entries (Some tip)) (turned xs done at)
      (back.log (xs ++ at ∷ []) (behind entries xs at parent head read is has linked last long) (last_push xs at) (counted wanted number xs long));
  broken = λ bad breaks. back.broken bad (parent ∷ breaks.0, (head, record { read = read; number = number }, has, breaks.1));
}
  where
    counted : (w : Option ℕ) → IfSome w (λ n. head.number ≡ n) → (xs : List (List ℕ)) → length xs ≡ head.number - 1 → IfSome w (λ n. length (xs ++ at ∷ []) ≡ n)
    counted None number xs long = tt
    counted (Some n) number xs long = let some = is.some in let more = length_push xs at in omega (arith, number, some, long, more)

pub back_end : (entries : Entries) (tip : List ℕ) (done : List (List ℕ)) (wanted : Option ℕ) (at : List ℕ) (head : Head)
    → Back entries tip done wanted at → entries at ≡ Some head → IsHead head → IfSome wanted (λ n. head.number ≡ n) → head.parent ≡ None
    → IsLog entries (Some tip) (reverse (done ++ at ∷ []))
back_end entries tip done wanted at head back read is number none =
    subst (IsLog entries (Some tip)) (turned [] done at) (back.log (at ∷ []) (alone entries at head read is none) refl (counted wanted number))
  where
    counted : (w : Option ℕ) → IfSome w (λ n. head.number ≡ n) → IfSome w (λ n. 1 ≡ n)
    counted None number = tt
    counted (Some n) number = sym (is.first.1 none) ∙ number

-- nothing that is wanted stands here
pub back_bad : (entries : Entries) (tip : List ℕ) (done : List (List ℕ)) (wanted : Option ℕ) (at : List ℕ) → Back entries tip done wanted at
    → ((head : Head) → Stands entries wanted at head → ⊥) → IsBreak entries (Some tip) at
back_bad entries tip done wanted at back never = back.broken at ([], (refl, never))

-- no entry is there
pub back_missing : (entries : Entries) (tip : List ℕ) (done : List (List ℕ)) (wanted : Option ℕ) (at : List ℕ) → Back entries tip done wanted at
    → entries at ≡ None → IsBreak entries (Some tip) at
back_missing entries tip done wanted at back read = back_bad entries tip done wanted at back (λ head stands. never head (sym read ∙ stands.read))
  where
    never : (head : Head) → None ≡ Some head → ⊥
    never head e = cc e

-- an entry of another number is there
pub back_other : (entries : Entries) (tip : List ℕ) (done : List (List ℕ)) (wanted : Option ℕ) (at : List ℕ) (head : Head) → Back entries tip done wanted at
    → entries at ≡ Some head → (IfSome wanted (λ n. head.number ≡ n) → ⊥) → IsBreak entries (Some tip) at
back_other entries tip done wanted at head back read other =
    back_bad entries tip done wanted at back (λ h stands. other (subst (λ (k : Head). IfSome wanted (λ n. k.number ≡ n)) (same h head (sym stands.read ∙ read)) stands.number))
  where
    same : (g h : Head) → Some g ≡ Some h → g ≡ h
    same g h e = cc e

at_least_two : (head : Head) (parent : List ℕ) → IsHead head → head.parent ≡ Some parent → 2 ≤ head.number
at_least_two head parent is has =
    let some = is.some in
    elim (cases_eq head.number 1) [ inl one ↦ absurd (never (sym (is.first.0 one) ∙ has)) | inr more ↦ omega (arith, some, more) ]
  where
    never : None ≡ Some parent → ⊥
    never e = cc e

-- one more stands behind, and its parent is wanted
pub few_next : (done : ℕ) (wanted : Option ℕ) (head : Head) (parent : List ℕ) (now : ℕ) → IsFew done wanted → IfSome wanted (λ n. head.number ≡ n) → IsHead head → head.parent ≡ Some parent → now ≡ done + 1
    → IsFew now (Some (head.number - 1))
few_next done None head parent now few number is has more =
    let most = is.most in
    let two = at_least_two head parent is has in
    (omega (arith, few, most, more, two), omega (arith, two))
few_next done (Some n) head parent now few number is has more =
    let within = few.0 in
    let two = at_least_two head parent is has in
    (omega (arith, within, number, more, two), omega (arith, two))

-- the last is among the few
pub few_end : (done : ℕ) (wanted : Option ℕ) (now : ℕ) → IsFew done wanted → now ≡ done + 1 → now ≤ 1000000
few_end done None now few more = omega (arith, few, more)
few_end done (Some n) now few more = let within = few.0 in let some = few.1 in omega (arith, within, some, more)

-- one more read for one more entry
pub reads_next : (before was now done more : ℕ) → was ≤ before + done → now ≡ one_more was → more ≡ done + 1 → now ≤ before + more
reads_next before was now done more within one is = omega (arith, within, one, is)
