-- The order of places and of chains, and chains in a list.
use Rattle.std.proofs.Common.{◌≡◌, ◌⊎◌, ◌++◌, List, [], ◌∷◌, refl, ap, subst, inl, inr, arith, map}
use Rattle.std.specs.List.{AllByRecursion}
use Rattle.rule_delegations.specs.declared.places.RuleRef.{RuleRef}
use Rattle.rule_delegations.specs.Chains.{Before, IsBefore}
use Rattle.rule_delegations.specs.Reached.{Holds, InOrder}

abbrev pub Chain : Type 0
Chain = List RuleRef

pub not_before_itself : (p q : RuleRef) → p ≡ q → IsBefore p q → ⊥
not_before_itself p q same before = elim before [
  | inl file ↦ let e = ap (λ (x : RuleRef). x.file) same in absurd (omega (arith, e, file))
  | inr rule ↦ let e = ap (λ (x : RuleRef). x.rule) same in absurd (omega (arith, e, rule.1))
]

pub not_both_before : (p q : RuleRef) → IsBefore p q → IsBefore q p → ⊥
not_both_before p q before after = elim before [
  | inl file ↦ elim after [ inl back ↦ absurd (omega (arith, file, back)) | inr back ↦ absurd (omega (arith, file, back.0)) ]
  | inr rule ↦ elim after [ inl back ↦ absurd (omega (arith, rule.0, back)) | inr back ↦ absurd (omega (arith, rule.1, back.1)) ]
]

-- ---- chains in a list

pub holds_front : (front back : List Chain) (c : Chain) → Holds front c → Holds (front ++ back) c
holds_front [] back c h = absurd h
holds_front (a ∷ front) back c h = elim h [ inl here ↦ inl here | inr later ↦ inr (holds_front front back c later) ]

pub holds_back : (front back : List Chain) (c : Chain) → Holds back c → Holds (front ++ back) c
holds_back [] back c h = h
holds_back (a ∷ front) back c h = inr (holds_back front back c h)

pub holds_either : (front back : List Chain) (c : Chain) → Holds (front ++ back) c → Holds front c ⊎ Holds back c
holds_either [] back c h = inr h
holds_either (a ∷ front) back c h = elim h [
  | inl here ↦ inl (inl here)
  | inr later ↦ elim (holds_either front back c later) [ inl early ↦ inl (inr early) | inr late ↦ inr late ]
]

pub holds_under : (p : RuleRef) (cs : List Chain) (c : Chain) → Holds cs c → Holds (map (λ chain. p ∷ chain) cs) (p ∷ c)
holds_under p [] c h = absurd h
holds_under p (d ∷ ds) c h = elim h [ inl here ↦ inl (ap (λ (x : Chain). p ∷ x) here) | inr later ↦ inr (holds_under p ds c later) ]

pub held_under : (p : RuleRef) (cs : List Chain) (c : Chain) → Holds (map (λ chain. p ∷ chain) cs) c → (d : Chain) × Holds cs d × (p ∷ d ≡ c)
held_under p [] c h = absurd h
held_under p (d ∷ ds) c h = elim h [
  | inl here ↦ (d, inl refl, here)
  | inr later ↦ let (e, held, is) = held_under p ds c later in (e, inr held, is)
]

-- what holds of each chain that a list holds
pub all_held : (P : Chain → Type 0) (cs : List Chain) → ((c : Chain) → Holds cs c → P c) → AllByRecursion P cs
all_held P [] each = tt
all_held P (c ∷ cs) each = (each c (inl refl), all_held P cs (λ d h. each d (inr h)))

pub held_all : (P : Chain → Type 0) (cs : List Chain) → AllByRecursion P cs → (c : Chain) → Holds cs c → P c
held_all P [] all c h = absurd h
held_all P (d ∷ ds) all c h = elim h [ inl here ↦ subst P here all.0 | inr later ↦ held_all P ds all.1 c later ]

pub in_order_append : (front back : List Chain) → InOrder front → InOrder back → ((a b : Chain) → Holds front a → Holds back b → Before a b) → InOrder (front ++ back)
in_order_append [] back first second apart = second
in_order_append (a ∷ front) back first second apart = (
  all_held (Before a) (front ++ back) (λ c h. elim (holds_either front back c h) [
    | inl early ↦ held_all (Before a) front first.0 c early
    | inr late ↦ apart a c (inl refl) late
  ]),
  in_order_append front back first.1 second (λ x y h. apart x y (inr h)),
)

pub in_order_under : (p : RuleRef) (cs : List Chain) → InOrder cs → InOrder (map (λ chain. p ∷ chain) cs)
in_order_under p [] order = tt
in_order_under p (c ∷ cs) order = (
  all_held (Before (p ∷ c)) (map (λ chain. p ∷ chain) cs) (λ d h.
      let (e, held, is) = held_under p cs d h in subst (Before (p ∷ c)) is (inr (refl, held_all (Before c) cs order.0 e held))),
  in_order_under p cs order.1,
)
