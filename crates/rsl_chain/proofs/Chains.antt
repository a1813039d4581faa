-- A repository has one log or one break, and never both.
use Rattle.std.proofs.Common.{◌≡◌, ◌⊎◌, inl, inr, ℕ, zero, suc, ◌+◌, ◌-◌, ◌<◌, ◌≤◌, List, [], ◌∷◌, ◌++◌, length, Option, Some, None, refl, sym, ap, subst, ◌∙◌, arith, append_assoc}
use Rattle.std.specs.Prelude.{IfSome}
use Rattle.std.proofs.lemmas.Bool.{cases_eq}
use Rattle.std.proofs.lemmas.List.{length_push}
use Rattle.rsl_chain.specs.Chain.{AreHeads, AreLinked, BreaksFrom, Entries, IsHead, Leads, LogOrBreak, NeverBoth, OneBreak, OneLog, Stands, head_after, last_of}
use Rattle.rsl_chain.specs.declared.heads.Head.{Head}

abbrev Id : Type 0
Id = List ℕ

-- ---- lists by their ends

-- a list is empty or ends in an item
abbrev pub Ends : List Id → Type 0
Ends xs = (xs ≡ []) ⊎ ((front : List Id) × (last : Id) × (xs ≡ front ++ last ∷ []))

onto : (x : Id) (xs : List Id) → Ends xs → Ends (x ∷ xs)
onto x xs ends = elim ends [
  | inl none ↦ inr ([], x, ap (λ (t : List Id). x ∷ t) none)
  | inr some ↦ inr (x ∷ some.0, some.1, ap (λ (t : List Id). x ∷ t) some.2)
]

pub ends : (xs : List Id) → Ends xs
ends [] = inl refl
ends (x ∷ xs) = onto x xs (ends xs)

pub last_push : (xs : List Id) (x : Id) → last_of (xs ++ x ∷ []) ≡ Some x
last_push [] x = refl
last_push (y ∷ []) x = refl
last_push (y ∷ z ∷ xs) x = last_push (z ∷ xs) x

no_end : (xs : List Id) (x : Id) → xs ++ x ∷ [] ≡ [] → ⊥
no_end [] x e = cc e
no_end (y ∷ xs) x e = cc e

some_one : (x y : Id) → Some x ≡ Some y → x ≡ y
some_one x y e = cc e

same_push : (xs ys : List Id) (x y : Id) → xs ++ x ∷ [] ≡ ys ++ y ∷ [] → (xs ≡ ys) × (x ≡ y)
same_push [] [] x y e = (refl, cc e)
same_push [] (z ∷ ys) x y e = let rest : [] ≡ ys ++ y ∷ [] = cc e in absurd (no_end ys y (sym rest))
same_push (z ∷ xs) [] x y e = let rest : xs ++ x ∷ [] ≡ [] = cc e in absurd (no_end xs x rest)
same_push (z ∷ xs) (w ∷ ys) x y e =
    let first : z ≡ w = cc e in
    let rest : xs ++ x ∷ [] ≡ ys ++ y ∷ [] = cc e in
    let more = same_push xs ys x y rest in
    ((λ i. first i ∷ more.0 i), more.1)

-- ---- links

pub linked_front : (entries : Entries) (xs more : List Id) → AreLinked entries (xs ++ more) → AreLinked entries xs
linked_front entries xs more linked = λ front id rest is.
    linked front id (rest ++ more) (ap (λ (t : List Id). t ++ more) is ∙ append_assoc front (id ∷ rest) more)

pub linked_last : (entries : Entries) (xs : List Id) (x : Id) → AreLinked entries (xs ++ x ∷ []) → entries x ≡ Some (head_after xs)
linked_last entries xs x linked = linked xs x [] refl

pushed : (entries : Entries) (xs : List Id) (x : Id) (front : List Id) (id : Id) (rest : List Id) → AreLinked entries xs → entries x ≡ Some (head_after xs)
    → xs ++ x ∷ [] ≡ front ++ id ∷ rest → Ends rest → entries id ≡ Some (head_after front)
pushed entries xs x front id rest linked read is rest_ends = elim rest_ends [
  | inl none ↦
      let same = same_push xs front x id (is ∙ ap (λ (t : List Id). front ++ id ∷ t) none) in
      ap entries (sym same.1) ∙ read ∙ ap (λ (t : List Id). Some (head_after t)) same.0
  | inr some ↦
      let whole : xs ++ x ∷ [] ≡ (front ++ id ∷ some.0) ++ some.1 ∷ [] =
      is ∙ ap (λ (t : List Id). front ++ id ∷ t) some.2 ∙ sym (append_assoc front (id ∷ some.0) (some.1 ∷ [])) in
      let same = same_push xs (front ++ id ∷ some.0) x some.1 whole in
      linked front id some.0 same.0
]

pub linked_push : (entries : Entries) (xs : List Id) (x : Id) → AreLinked entries xs → entries x ≡ Some (head_after xs) → AreLinked entries (xs ++ x ∷ [])
linked_push entries xs x linked read = λ front id rest is. pushed entries xs x front id rest linked read is (ends rest)

pub linked_none : (entries : Entries) → AreLinked entries []
linked_none entries = λ front id rest is. absurd (never front id rest is)
  where
    never : (front : List Id) (id : Id) (rest : List Id) → [] ≡ front ++ id ∷ rest → ⊥
    never [] id rest e = cc e
    never (x ∷ front) id rest e = cc e

same_head : (g h : Head) → Some g ≡ Some h → g ≡ h
same_head g h e = cc e

-- ---- one log

none_some : (x : Id) → None ≡ Some x → ⊥
none_some x e = cc e

abbrev Again : Entries → List Id → Type 0
Again entries xs = (fx fy : List Id) → length fx < length xs → AreLinked entries fx → AreLinked entries fy → last_of fx ≡ last_of fy → fx ≡ fy

same_number : (g h : Head) → g ≡ h → g.number ≡ h.number
same_number g h e = ap (λ (k : Head). k.number) e

by_ends : (entries : Entries) (xs ys : List Id) → Again entries xs → AreLinked entries xs → AreLinked entries ys → last_of xs ≡ last_of ys → Ends xs → Ends ys → xs ≡ ys
by_ends entries xs ys again lx ly last (inl none) (inl nought) = none ∙ sym nought
by_ends entries xs ys again lx ly last (inl none) (inr some) =
    absurd (none_some some.1 (ap last_of (sym none) ∙ last ∙ ap last_of some.2 ∙ last_push some.0 some.1))
by_ends entries xs ys again lx ly last (inr some) (inl nought) =
    absurd (none_some some.1 (sym (ap last_of nought) ∙ sym last ∙ ap last_of some.2 ∙ last_push some.0 some.1))
by_ends entries xs ys again lx ly last (inr one) (inr other) =
    let same : one.1 ≡ other.1 = some_one one.1 other.1 (sym (last_push one.0 one.1) ∙ ap last_of (sym one.2) ∙ last ∙ ap last_of other.2 ∙ last_push other.0 other.1) in
    let lone = subst (AreLinked entries) one.2 lx in
    let lother = subst (AreLinked entries) other.2 ly in
    let heads : head_after one.0 ≡ head_after other.0 =
    same_head (head_after one.0) (head_after other.0) (sym (linked_last entries one.0 one.1 lone) ∙ ap entries same ∙ linked_last entries other.0 other.1 lother) in
    let long = ap length one.2 in
    let more = length_push one.0 one.1 in
    let less : length one.0 < length xs = omega (arith, long, more) in
    let fronts = again one.0 other.0 less (linked_front entries one.0 (one.1 ∷ []) lone) (linked_front entries other.0 (other.1 ∷ []) lother) (ap (λ (k : Head). k.parent) heads) in
    one.2 ∙ (λ i. fronts i ++ same i ∷ []) ∙ sym other.2

one_size : (size : ℕ) (entries : Entries) (xs ys : List Id) → length xs ≤ size → AreLinked entries xs → AreLinked entries ys → last_of xs ≡ last_of ys → xs ≡ ys
one_size zero entries xs ys small lx ly last = by_ends entries xs ys (λ fx fy less. absurd (omega (arith, less, small))) lx ly last (ends xs) (ends ys)
one_size (suc n) entries xs ys small lx ly last =
    by_ends entries xs ys (λ fx fy less lfx lfy l. one_size n entries fx fy (omega (arith, less, small)) lfx lfy l) lx ly last (ends xs) (ends ys)

pub one_log : OneLog
one_log entries tip xs ys x y = one_size (length xs) entries xs ys (omega arith) x.linked y.linked (x.last ∙ sym y.last)

-- ---- one break

same_parent : (g h : Head) (p q : Id) → g ≡ h → g.parent ≡ Some p → h.parent ≡ Some q → p ≡ q
same_parent g h p q e is other = some_one p q (sym is ∙ ap (λ (k : Head). k.parent) e ∙ other)

one_lead : (entries : Entries) (wanted : Option ℕ) (id : Id) (ps qs : List Id) (x y : Id) → Leads entries wanted id ps x → Leads entries wanted id qs y → x ≡ y
one_lead entries wanted id [] [] x y one other = sym one.0 ∙ other.0
one_lead entries wanted id [] (q ∷ qs) x y one other = absurd (one.1 other.0 other.1)
one_lead entries wanted id (p ∷ ps) [] x y one other = absurd (other.1 one.0 one.1)
one_lead entries wanted id (p ∷ ps) (q ∷ qs) x y one other =
    let stands = one.1 in
    let stands_too = other.1 in
    let heads : other.0 ≡ one.0 = same_head other.0 one.0 (sym stands_too.read ∙ stands.read) in
    let parents : q ≡ p = same_parent other.0 one.0 q p heads other.2 one.2 in
    let moved = subst (λ (at : Id). Leads entries (Some (one.0.number - 1)) at qs y) parents (subst (λ (h : Head). Leads entries (Some (h.number - 1)) q qs y) heads other.3) in
    one_lead entries (Some (one.0.number - 1)) p ps qs x y one.3 moved

pub one_break : OneBreak
one_break entries None x y one other = absurd one
one_break entries (Some id) x y one other = one_lead entries None id one.0 other.0 x y one.1 other.1

-- ---- never both

not_ending : (entries : Entries) (wanted : Option ℕ) (id : Id) (ps : List Id) (bad : Id) (ids : List Id) → AreLinked entries ids → last_of ids ≡ Some id → IfSome wanted (λ n. length ids ≡ n)
    → Leads entries wanted id ps bad → Ends ids → ⊥
not_ending entries wanted id ps bad ids linked last long leads (inl none) = none_some id (sym (ap last_of none) ∙ last)
not_ending entries wanted id [] bad ids linked last long leads (inr some) =
    let same : some.1 ≡ id = some_one some.1 id (sym (last_push some.0 some.1) ∙ ap last_of (sym some.2) ∙ last) in
    let read = linked_last entries some.0 some.1 (subst (AreLinked entries) some.2 linked) in
    leads.1 (head_after some.0) (record { read = ap entries (sym same) ∙ read; number = counted wanted long })
  where
    counted : (w : Option ℕ) → IfSome w (λ n. length ids ≡ n) → IfSome w (λ n. length some.0 + 1 ≡ n)
    counted None long = tt
    counted (Some n) long = sym (length_push some.0 some.1) ∙ ap length (sym some.2) ∙ long
not_ending entries wanted id (p ∷ ps) bad ids linked last long leads (inr some) =
    let same : some.1 ≡ id = some_one some.1 id (sym (last_push some.0 some.1) ∙ ap last_of (sym some.2) ∙ last) in
    let whole = subst (AreLinked entries) some.2 linked in
    let read = linked_last entries some.0 some.1 whole in
    let stands = leads.1 in
    let heads : leads.0 ≡ head_after some.0 = same_head leads.0 (head_after some.0) (sym stands.read ∙ ap entries (sym same) ∙ read) in
    let before : last_of some.0 ≡ Some p = sym (ap (λ (k : Head). k.parent) heads) ∙ leads.2 in
    let number : leads.0.number ≡ length some.0 + 1 = ap (λ (k : Head). k.number) heads in
    let short : length some.0 ≡ leads.0.number - 1 = omega (arith, number) in
    not_ending entries (Some (leads.0.number - 1)) p ps bad some.0 (linked_front entries some.0 (some.1 ∷ []) whole) before short leads.3 (ends some.0)

pub never_both : NeverBoth
never_both entries None ids bad log break = break
never_both entries (Some id) ids bad log break = not_ending entries None id break.0 bad ids log.linked log.last tt break.1 (ends ids)

-- ---- a log or a break

abbrev Ended : Entries → Option ℕ → Id → Type 0
Ended entries wanted id =
    ((ids : List Id) × AreLinked entries ids × (last_of ids ≡ Some id) × IfSome wanted (λ n. length ids ≡ n)) ⊎ ((bad : Id) × BreaksFrom entries wanted id bad)

here : (entries : Entries) (wanted : Option ℕ) (id : Id) → ((head : Head) → Stands entries wanted id head → ⊥) → Ended entries wanted id
here entries wanted id never = inr (id, ([], (refl, never)))

-- an entry that stands and has no parent is the whole log so far
pub alone : (entries : Entries) (id : Id) (head : Head) → entries id ≡ Some head → IsHead head → head.parent ≡ None → AreLinked entries (id ∷ [])
alone entries id head read is none =
    let one : head.number ≡ 1 = is.first.1 none in
    linked_push entries [] id (linked_none entries) (read ∙ (λ i. Some (record { number = one i; parent = none i })))

-- an entry that stands is linked behind a log that ends in its parent
pub behind : (entries : Entries) (ids : List Id) (id parent : Id) (head : Head) → entries id ≡ Some head → IsHead head → head.parent ≡ Some parent
    → AreLinked entries ids → last_of ids ≡ Some parent → length ids ≡ head.number - 1 → AreLinked entries (ids ++ id ∷ [])
behind entries ids id parent head read is has linked last long =
    let some = is.some in
    let number : head.number ≡ length ids + 1 = omega (arith, some, long) in
    let before : head.parent ≡ last_of ids = has ∙ sym last in
    linked_push entries ids id linked (read ∙ (λ i. Some (record { number = number i; parent = before i })))

by_parent : (entries : Entries) (wanted : Option ℕ) (id : Id) (head : Head) (parent : Option Id) → head.parent ≡ parent → IsHead head → Stands entries wanted id head
    → ((p : Id) → 2 ≤ head.number → Ended entries (Some (head.number - 1)) p) → Ended entries wanted id
by_parent entries wanted id head None has is stands again =
    let one : head.number ≡ 1 = is.first.1 has in
    inl (id ∷ [], alone entries id head stands.read is has, refl, counted wanted stands.number one)
  where
    counted : (w : Option ℕ) → IfSome w (λ n. head.number ≡ n) → head.number ≡ 1 → IfSome w (λ n. 1 ≡ n)
    counted None number one = tt
    counted (Some n) number one = sym one ∙ number
by_parent entries wanted id head (Some p) has is stands again =
    let some = is.some in
    let other : head.number ≡ 1 → ⊥ = λ one. none_some p (sym (is.first.0 one) ∙ has) in
    let two : 2 ≤ head.number = elim (cases_eq head.number 1) [ inl one ↦ absurd (other one) | inr more ↦ omega (arith, some, more) ] in
    elim (again p two) [
      | inl log ↦ inl (log.0 ++ id ∷ [], behind entries log.0 id p head stands.read is has log.1 log.2 log.3, last_push log.0 id, counted wanted stands.number some log.0 log.3)
      | inr break ↦ inr (break.0, (p ∷ break.1.0, (head, stands, has, break.1.1)))
    ]
  where
    counted : (w : Option ℕ) → IfSome w (λ n. head.number ≡ n) → 0 < head.number → (ids : List Id) → length ids ≡ head.number - 1 → IfSome w (λ n. length (ids ++ id ∷ []) ≡ n)
    counted None number some ids long = tt
    counted (Some n) number some ids long = let more = length_push ids id in omega (arith, number, some, long, more)

by_read : (entries : Entries) (wanted : Option ℕ) (id : Id) (found : Option Head) → entries id ≡ found → IfSome found IsHead
    → ((head : Head) → IfSome wanted (λ n. head.number ≡ n) ⊎ (IfSome wanted (λ n. head.number ≡ n) → ⊥))
    → ((head : Head) (p : Id) → IfSome wanted (λ n. head.number ≡ n) → 2 ≤ head.number → Ended entries (Some (head.number - 1)) p) → Ended entries wanted id
by_read entries wanted id None read valid decided again = here entries wanted id (λ head stands. none_some_head head (sym read ∙ stands.read))
  where
    none_some_head : (head : Head) → None ≡ Some head → ⊥
    none_some_head head e = cc e
by_read entries wanted id (Some head) read valid decided again = elim (decided head) [
  | inl number ↦ by_parent entries wanted id head head.parent refl valid (record { read = read; number = number }) (λ p two. again head p number two)
  | inr other ↦ here entries wanted id (λ h stands. let same = same_head h head (sym stands.read ∙ read) in other (subst (λ (k : Head). IfSome wanted (λ n. k.number ≡ n)) same stands.number))
]

ended : (n : ℕ) (entries : Entries) (id : Id) → AreHeads entries → Ended entries (Some n) id
ended zero entries id valid =
    by_read entries (Some 0) id (entries id) refl (valid id) (λ head. cases_eq head.number 0) (λ head p number two. absurd (omega (arith, number, two)))
ended (suc n) entries id valid =
    by_read entries (Some (suc n)) id (entries id) refl (valid id) (λ head. cases_eq head.number (suc n))
    (λ head p number two. let before : n ≡ head.number - 1 = omega (arith, number) in subst (λ (k : ℕ). Ended entries (Some k) p) before (ended n entries p valid))

pub log_or_break : LogOrBreak
log_or_break entries None valid = inl ([], record { linked = linked_none entries; last = refl })
log_or_break entries (Some id) valid = elim (by_read entries None id (entries id) refl (valid id) (λ head. inl tt) (λ head p number two. ended (head.number - 1) entries p valid)) [
  | inl log ↦ inl (log.0, record { linked = log.1; last = log.2 })
  | inr break ↦ inr (break.0, break.1)
]
