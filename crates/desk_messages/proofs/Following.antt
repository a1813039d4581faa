-- Bytes ask one thing at most, and what follows a whole request changes nothing.
use Rattle.std.proofs.Common.{◌≡◌, ◌≤◌, ℕ, List, [], ◌∷◌, ◌++◌, Bool, true, false, length, take, map, refl, sym, ap, subst, ◌∙◌, inl, inr, arith, if◌then◌else◌, length-append}
use Rattle.std.specs.Prelude.{Option, Some, None, Result, Ok, Err, nat_lt, IfSome}
use Rattle.std.proofs.lemmas.Bool.{le-ltb}
use Rattle.std.proofs.lemmas.List.{append-nil, take-append-le}
use Rattle.httparse.specs.Grammar.{RequestHead}
use Rattle.httparse.specs.Spans.{name_and_value}
use Rattle.desk_messages.specs.Heads.{NeverHasHead}
use Rattle.desk_messages.specs.Lengths.{Says}
use Rattle.desk_messages.specs.Laws.{OneAnswer, WhatFollows}
use Rattle.desk_messages.specs.Routes.{allowed, page_of}
use Rattle.desk_messages.specs.Asking.{Asks, HeadAsks, SomeAsk, allowed_asked, head_asked, largest_body}
use Rattle.desk_messages.specs.Reading.{IsWhole, Reads, body_len}
use Rattle.desk_messages.specs.declared.routes.Page.{Page}
use Rattle.desk_messages.specs.declared.routes.Page.TheVariants as a_page
use Rattle.desk_messages.specs.declared.requests.Asked.{Asked}
use Rattle.desk_messages.specs.declared.requests.Asked.TheVariants as ask
use Rattle.desk_messages.specs.declared.requests.Refusal.{Refusal}
use Rattle.desk_messages.specs.declared.requests.Refusal.TheVariants as why
use Rattle.desk_messages.proofs.HeadAnswers.{one_said}
use Rattle.desk_messages.proofs.HeadFronts.{followed, no_head, none_here, one_head}

one_of_head : (head : RequestHead) (rest : List ℕ) (a b : Asked) → HeadAsks head rest a → HeadAsks head rest b → a ≡ b
one_of_head head rest a b (inl x) (inl y) = x.1 ∙ sym y.1
one_of_head head rest a b (inl x) (inr y) = absurd (x.0 y.0 y.1)
one_of_head head rest a b (inr x) (inl y) = absurd (y.0 x.0 x.1)
one_of_head head rest a b (inr x) (inr y) =
    x.2 ∙ ap (λ (said : Option ℕ). head_asked head said rest) (one_said (map name_and_value head.fields) x.0 y.0 x.1 y.1) ∙ sym y.2

one_of_some : (bytes : List ℕ) (a b : Asked) → SomeAsk bytes a → SomeAsk bytes b → a ≡ b
one_of_some bytes a b (inl x) (inl y) = x.1 ∙ sym y.1
one_of_some bytes a b (inl x) (inr y) = absurd (x.0 y.0 y.1 y.2)
one_of_some bytes a b (inr x) (inl y) = absurd (y.0 x.0 x.1 x.2)
one_of_some bytes a b (inr x) (inr y) =
    let same = one_head bytes x.0 y.0 x.1 y.1 x.2 y.2 in
    one_of_head y.0 y.1 a b
    (subst (λ (h : RequestHead). HeadAsks h y.1 a) same.0 (subst (λ (r : List ℕ). HeadAsks x.0 r a) same.1 x.3)) y.3

pub one_asked : OneAnswer
one_asked [] a b x y = x ∙ sym y
one_asked (byte ∷ bytes) a b x y = one_of_some (byte ∷ bytes) a b x y

-- a push whose body is there
abbrev asked_if : ℕ → List ℕ → Bool → Bool → Asked
asked_if n rest large short = if large then ask.Refused (why.TooLarge n) else (if short then ask.Refused why.BadRequest else ask.Push (take n rest))

push_if : (n : ℕ) (rest more : List ℕ) (large : Bool) → (if large then 0 else n) ≤ length rest
    → asked_if n (rest ++ more) large (nat_lt (length (rest ++ more)) n) ≡ asked_if n rest large (nat_lt (length rest) n)
push_if n rest more true long = refl
push_if n rest more false long =
    let wide : nat_lt (length (rest ++ more)) n ≡ false = le-ltb (length (rest ++ more)) n (omega (arith, length-append rest more)) in
    let full : nat_lt (length rest) n ≡ false = le-ltb (length rest) n long in
    ap (asked_if n (rest ++ more) false) wide ∙ ap (λ (b : List ℕ). ask.Push b) (take-append-le n rest more long) ∙ sym (ap (asked_if n rest false) full)

same_asked : (page : Result Page Refusal) (target : List ℕ) (said : Option ℕ) (rest more : List ℕ) → body_len page said ≤ length rest
    → allowed_asked page target said (rest ++ more) ≡ allowed_asked page target said rest
same_asked (Err e) target said rest more long = refl
same_asked (Ok a_page.Tip) target said rest more long = refl
same_asked (Ok a_page.Verify) target said rest more long = refl
same_asked (Ok a_page.Stream) target said rest more long = refl
same_asked (Ok a_page.Push) target None rest more long = refl
same_asked (Ok a_page.Push) target (Some n) rest more long = push_if n rest more (nat_lt largest_body n) long

head_follows : (head : RequestHead) (rest more : List ℕ) (asks : Asked)
    → ((said : Option ℕ) → Says head said → body_len (allowed head.method (page_of head.target)) said ≤ length rest)
    → HeadAsks head rest asks → HeadAsks head (rest ++ more) asks
head_follows head rest more asks body (inl x) = inl x
head_follows head rest more asks body (inr x) =
    inr (x.0, x.1, x.2 ∙ sym (same_asked (allowed head.method (page_of head.target)) head.target x.0 rest more (body x.0 x.1)))

whole_follows : (bytes more : List ℕ) (asks : Asked) → IsWhole bytes → SomeAsk bytes asks → SomeAsk (bytes ++ more) asks
whole_follows bytes more asks whole (inl x) = absurd (x.0 whole.head whole.rest whole.has)
whole_follows bytes more asks whole (inr x) =
    let same = one_head bytes whole.head x.0 whole.rest x.1 whole.has x.2 in
    let body : (said : Option ℕ) → Says x.0 said → body_len (allowed x.0.method (page_of x.0.target)) said ≤ length x.1 =
    subst (λ (r : List ℕ). (said : Option ℕ) → Says x.0 said → body_len (allowed x.0.method (page_of x.0.target)) said ≤ length r) same.1
    (subst (λ (h : RequestHead). (said : Option ℕ) → Says h said → body_len (allowed h.method (page_of h.target)) said ≤ length whole.rest) same.0 whole.body) in
    inr (x.0, x.1 ++ more, followed bytes more x.0 x.1 x.2, head_follows x.0 x.1 more asks body x.3)

never_follows : (bytes more : List ℕ) (asks : Asked) → NeverHasHead bytes → SomeAsk bytes asks → SomeAsk (bytes ++ more) asks
never_follows bytes more asks never (inl x) = inl (never more, x.1)
never_follows bytes more asks never (inr x) = absurd (none_here bytes never x.0 x.1 x.2)

pub follows : WhatFollows
follows [] more asks (inl enough) is = absurd (enough.0 refl)
follows [] more asks (inr whole) is = absurd (no_head whole.head whole.rest whole.has)
follows (byte ∷ bytes) more asks (inl enough) is = never_follows (byte ∷ bytes) more asks enough.1 is
follows (byte ∷ bytes) more asks (inr whole) is = whole_follows (byte ∷ bytes) more asks whole is

-- what was read tells what all asks
pub all_asked : (before after : Option (List ℕ)) (asks : Asked) → Reads [] before after asks → IfSome before (λ bytes. Asks bytes asks)
all_asked None after asks r = tt
all_asked (Some all) None asks r = let no : Some all ≡ None = r.read in absurd (cc)
all_asked (Some all) (Some rest) asks r =
    let is : all ≡ r.more ++ rest = (let e : Some all ≡ Some (r.more ++ rest) = r.read in cc) in
    elim r.stops [
      | inl end ↦ subst (λ (b : List ℕ). Asks b asks) (sym (is ∙ ap (λ (t : List ℕ). r.more ++ t) end ∙ append-nil r.more)) r.asks_is
      | inr enough ↦ subst (λ (b : List ℕ). Asks b asks) (sym is) (follows r.more rest asks enough r.asks_is)
    ]
