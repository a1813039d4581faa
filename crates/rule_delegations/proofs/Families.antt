-- Families of chains, and what finds exactly those that no earlier chain of the family stops.
use Rattle.std.proofs.Common.{◌≡◌, ◌⊎◌, ◌++◌, ◌||◌, Bool, true, false, List, [], ◌∷◌, refl, sym, ap, subst, ◌∙◌, inl, inr, map}
use Rattle.std.proofs.lemmas.Bool.{false≢true}
use Rattle.std.proofs.lemmas.List.{map-append}
use Rattle.rule_delegations.specs.declared.places.RuleRef.{RuleRef}
use Rattle.rule_delegations.specs.Chains.{Before, IsBefore, IsPrefix, last_place}
use Rattle.rule_delegations.specs.Reached.{Holds, InOrder}
use Rattle.rule_delegations.specs.Walks.{Found, at_rule, nothing, then_found}
use Rattle.rule_delegations.proofs.Orders.{Chain, all_held, held_under, holds_back, holds_either, holds_front, holds_under, in_order_append, in_order_under, not_before_itself, not_both_before}

-- no chain of those that stop is before this one without being its prefix
abbrev pub IsOpen : (Chain → Type 0) → Chain → Type 0
IsOpen Stops chain = (other : Chain) → Stops other → Before other chain → (IsPrefix other chain → ⊥) → ⊥

-- what was found are the chains of the family that are free, and it ended exactly where one stops
pub record IsExact (Live Stops : Chain → Type 0) (w : Found) : Type 0 where
  pub live : (chain : Chain) → Holds w.chains chain → Live chain
  pub unstopped : (chain : Chain) → Holds w.chains chain → IsOpen Stops chain
  pub all : (chain : Chain) → Live chain → IsOpen Stops chain → Holds w.chains chain
  pub stops : w.stopped ≡ true → (chain : Chain) × Stops chain
  pub stopped : (chain : Chain) → Stops chain → w.stopped ≡ true
  pub in_order : InOrder w.chains
  pub lasts : w.places ≡ map last_place w.chains

-- the first place of the one is before the first of the other
abbrev pub Apart : Chain → Chain → Type 0
Apart [] chain = ⊥
Apart (p ∷ ps) [] = ⊥
Apart (p ∷ ps) (q ∷ qs) = IsBefore p q

apart_before : (a b : Chain) → Apart a b → Before a b
apart_before [] b is = absurd is
apart_before (p ∷ ps) [] is = absurd is
apart_before (p ∷ ps) (q ∷ qs) is = inl is

apart_not_after : (a b : Chain) → Apart a b → Before b a → ⊥
apart_not_after [] b is back = is
apart_not_after (p ∷ ps) [] is back = is
apart_not_after (p ∷ ps) (q ∷ qs) is back = elim back [ inl first ↦ not_both_before p q is first | inr same ↦ not_before_itself p q (sym same.0) is ]

apart_no_prefix : (a b : Chain) → Apart a b → IsPrefix a b → ⊥
apart_no_prefix [] b is front = is
apart_no_prefix (p ∷ ps) [] is front = is
apart_no_prefix (p ∷ ps) (q ∷ qs) is front = let same : p ≡ q = let e = front.1 in cc in not_before_itself p q same is

pub none : (Live Stops : Chain → Type 0) → ((c : Chain) → Live c → ⊥) → ((c : Chain) → Stops c → ⊥) → IsExact Live Stops nothing
none Live Stops no_live no_stop = record {
  live = λ c h. absurd h;
  unstopped = λ c h. absurd h;
  all = λ c l o. no_live c l;
  stops = λ e. absurd (false≢true e);
  stopped = λ c s. absurd (no_stop c s);
  in_order = tt;
  lasts = refl;
}

-- one family, and another of which each chain begins later
module _ (L1 S1 L2 S2 : Chain → Type 0) (sub1 : (c : Chain) → S1 c → L1 c) (sub2 : (c : Chain) → S2 c → L2 c) (apart : (a b : Chain) → L1 a → L2 b → Apart a b) where
  Live : Chain → Type 0
  Live c = L1 c ⊎ L2 c

  Stops : Chain → Type 0
  Stops c = S1 c ⊎ S2 c

  open_first : (c : Chain) → L1 c → IsOpen S1 c → IsOpen (λ d. S1 d ⊎ S2 d) c
  open_first c l free other s before no_prefix = elim s [
    | inl first ↦ free other first before no_prefix
    | inr second ↦ apart_not_after c other (apart c other l (sub2 other second)) before
  ]

  pub then_exact : (early : List Chain) (places : List RuleRef) (ended : Bool) (w : Found) → IsExact L1 S1 (record { chains = early; places = places; stopped = ended }) → IsExact L2 S2 w
      → IsExact (λ c. L1 c ⊎ L2 c) (λ c. S1 c ⊎ S2 c) (then_found (record { chains = early; places = places; stopped = ended }) w)
  then_exact early places true w first second = record {
    live = λ c h. inl (first.live c h);
    unstopped = λ c h. open_first c (first.live c h) (first.unstopped c h);
    all = λ c l free. elim l [
      | inl one ↦ first.all c one (λ o s. free o (inl s))
      | inr two ↦
          let (stop, s) = first.stops refl in
          let sep = apart stop c (sub1 stop s) two in
          absurd (free stop (inl s) (apart_before stop c sep) (apart_no_prefix stop c sep))
    ];
    stops = λ e. let (stop, s) = first.stops refl in (stop, inl s);
    stopped = λ c s. refl;
    in_order = first.in_order;
    lasts = first.lasts;
  }
  then_exact early places false w first second = record {
    live = λ c h. elim (holds_either early w.chains c h) [ inl one ↦ inl (first.live c one) | inr two ↦ inr (second.live c two) ];
    unstopped = λ c h. elim (holds_either early w.chains c h) [
      | inl one ↦ open_first c (first.live c one) (first.unstopped c one)
      | inr two ↦ (λ o s before no_prefix. elim s [
        | inl s1 ↦ false≢true (first.stopped o s1)
        | inr s2 ↦ second.unstopped c two o s2 before no_prefix
      ])
    ];
    all = λ c l free. elim l [
      | inl one ↦ holds_front early w.chains c (first.all c one (λ o s. free o (inl s)))
      | inr two ↦ holds_back early w.chains c (second.all c two (λ o s. free o (inr s)))
    ];
    stops = λ e. let (stop, s) = second.stops e in (stop, inr s);
    stopped = λ c s. elim s [ inl s1 ↦ absurd (false≢true (first.stopped c s1)) | inr s2 ↦ second.stopped c s2 ];
    in_order = in_order_append early w.chains first.in_order second.in_order (λ a b ha hb. apart_before a b (apart a b (first.live a ha) (second.live b hb)));
    lasts = ap (λ (x : List RuleRef). x ++ w.places) first.lasts ∙ ap (λ (x : List RuleRef). map last_place early ++ x) second.lasts ∙ sym (map-append last_place early w.chains);
  }

-- a place, and what is asked where it is the last; a chain below it
abbrev pub AtPlace : RuleRef → Type 0 → (Chain → Type 0) → Chain → Type 0
AtPlace p Last Below [] = ⊥
AtPlace p Last Below (q ∷ []) = (p ≡ q) × Last
AtPlace p Last Below (q ∷ r ∷ rs) = (p ≡ q) × Below (r ∷ rs)

-- a rule, and the family below it
module _ (p : RuleRef) (ends : Bool) (L S : Chain → Type 0) (sub : (c : Chain) → S c → L c) (some : L [] → ⊥) where
  under : (Last : Type 0) (B : Chain → Type 0) (c : Chain) → (B [] → ⊥) → B c → AtPlace p Last B (p ∷ c)
  under Last B [] never b = absurd (never b)
  under Last B (q ∷ qs) never b = (refl, b)

  prefix_under : (a b : Chain) → (IsPrefix (p ∷ a) (p ∷ b) → ⊥) → IsPrefix a b → ⊥
  prefix_under a b never front = never (front.0, ap (λ (x : Chain). p ∷ x) front.1)

  no_stop : S [] → ⊥
  no_stop s = some (sub [] s)

  open_alone : IsOpen (AtPlace p (ends ≡ true) S) (p ∷ [])
  open_alone [] s before no_prefix = s
  open_alone (q ∷ []) s before no_prefix = elim before [ inl first ↦ not_before_itself q p (sym s.0) first | inr same ↦ same.1 ]
  open_alone (q ∷ r ∷ rs) s before no_prefix = elim before [ inl first ↦ not_before_itself q p (sym s.0) first | inr same ↦ same.1 ]

  open_under : (c : Chain) → IsOpen S c → IsOpen (AtPlace p (ends ≡ true) S) (p ∷ c)
  open_under c free [] s before no_prefix = s
  open_under c free (q ∷ []) s before no_prefix = no_prefix (c, ap (λ (x : RuleRef). x ∷ c) s.0)
  open_under c free (q ∷ r ∷ rs) s before no_prefix = elim before [
    | inl first ↦ not_before_itself q p (sym s.0) first
    | inr same ↦ free (r ∷ rs) s.1 same.1 (λ front. no_prefix (front.0, (ap (λ (x : RuleRef). x ∷ c) s.0 ∙ ap (λ (x : Chain). q ∷ x) front.1)))
  ]

  open_below : (c : Chain) → IsOpen (AtPlace p (ends ≡ true) S) (p ∷ c) → IsOpen S c
  open_below c free [] s before no_prefix = no_stop s
  open_below c free (q ∷ qs) s before no_prefix =
      free (p ∷ q ∷ qs) (refl, s) (inr (refl, before)) (λ front. no_prefix (front.0, (let e = front.1 in cc)))

  alone_first : (cs : List Chain) → ((c : Chain) → Holds cs c → L c) → (c : Chain) → Holds (map (λ chain. p ∷ chain) cs) c → Before (p ∷ []) c
  alone_first cs live c h = let (d, held, is) = held_under p cs c h in subst (Before (p ∷ [])) is (by_tail d (live d held)) where
    by_tail : (d : Chain) → L d → Before (p ∷ []) (p ∷ d)
    by_tail [] l = absurd (some l)
    by_tail (q ∷ qs) l = inr (refl, tt)

  lasts_under : (cs : List Chain) → ((c : Chain) → Holds cs c → L c) → map last_place cs ≡ map last_place (map (λ chain. p ∷ chain) cs)
  lasts_under [] live = refl
  lasts_under ([] ∷ cs) live = absurd (some (live [] (inl refl)))
  lasts_under ((q ∷ qs) ∷ cs) live = ap (λ (x : List RuleRef). last_place (q ∷ qs) ∷ x) (lasts_under cs (λ c h. live c (inr h)))

  pub rule_exact : (w : Found) → IsExact L S w → IsExact (AtPlace p (Unit {0}) L) (AtPlace p (ends ≡ true) S) (at_rule p ends w)
  rule_exact w below = record {
    live = λ c h. elim h [
      | inl here ↦ subst (AtPlace p (Unit {0}) L) here (refl, tt)
      | inr later ↦ let (d, held, is) = held_under p w.chains c later in subst (AtPlace p (Unit {0}) L) is (under (Unit {0}) L d some (below.live d held))
    ];
    unstopped = λ c h. elim h [
      | inl here ↦ subst (IsOpen (AtPlace p (ends ≡ true) S)) here open_alone
      | inr later ↦ let (d, held, is) = held_under p w.chains c later in subst (IsOpen (AtPlace p (ends ≡ true) S)) is (open_under d (below.unstopped d held))
    ];
    all = every;
    stops = by_end w.stopped refl;
    stopped = by_chain;
    in_order = (all_held (Before (p ∷ [])) (map (λ chain. p ∷ chain) w.chains) (alone_first w.chains below.live), in_order_under p w.chains below.in_order);
    lasts = ap (λ (x : List RuleRef). p ∷ x) (below.lasts ∙ lasts_under w.chains below.live);
  } where
    or_true : (b : Bool) → (b || true) ≡ true
    or_true true = refl
    or_true false = refl

    every : (c : Chain) → AtPlace p (Unit {0}) L c → IsOpen (AtPlace p (ends ≡ true) S) c → Holds ((p ∷ []) ∷ map (λ chain. p ∷ chain) w.chains) c
    every [] l free = absurd l
    every (q ∷ []) l free = inl (ap (λ (x : RuleRef). x ∷ []) l.0)
    every (q ∷ r ∷ rs) l free =
        let whole : p ∷ r ∷ rs ≡ q ∷ r ∷ rs = ap (λ (x : RuleRef). x ∷ r ∷ rs) l.0 in
        inr (subst (Holds (map (λ chain. p ∷ chain) w.chains)) whole
        (holds_under p w.chains (r ∷ rs) (below.all (r ∷ rs) l.1 (open_below (r ∷ rs) (subst (IsOpen (AtPlace p (ends ≡ true) S)) (sym whole) free)))))

    by_end : (b : Bool) → w.stopped ≡ b → (b || ends) ≡ true → (c : Chain) × AtPlace p (ends ≡ true) S c
    by_end true is e = let (d, s) = below.stops is in (p ∷ d, under (ends ≡ true) S d no_stop s)
    by_end false is e = (p ∷ [], (refl, e))

    by_chain : (c : Chain) → AtPlace p (ends ≡ true) S c → (w.stopped || ends) ≡ true
    by_chain [] s = absurd s
    by_chain (q ∷ []) s = ap (λ b. w.stopped || b) s.1 ∙ or_true w.stopped
    by_chain (q ∷ r ∷ rs) s = ap (λ b. b || ends) (below.stopped (r ∷ rs) s.1)
