-- How marks spread from the top file.
use Rattle.std.proofs.Common.{◌≡◌, ◌⊎◌, ◌+◌, ◌++◌, ◌<◌, ◌≤◌, ℕ, suc, Bool, false, List, [], ◌∷◌, Option, Some, None, refl, sym, ap, subst, ◌∙◌, inl, inr, arith, length, take, get_or, length-append, append_assoc}
use Prim.Native.Nat as Nat
use Rattle.std.specs.Prelude.{option_and_then, replicate}
use Rattle.std.proofs.lemmas.Bool.{cases_lt, false≢true}
use Rattle.std.proofs.lemmas.List.{append-nil, take_more, take-append-le}
use Rattle.std.proofs.Math.Seq.{take-length}
use Rattle.rule_files.specs.declared.rules.Rule.{Rule}
use Rattle.rule_files.specs.declared.rules.RuleFile.{RuleFile}
use Rattle.rule_delegations.specs.declared.places.RuleRef.{RuleRef}
use Rattle.rule_delegations.specs.Chains.{IsNamed, IsRule, Leads, last_place, rule_at}
use Rattle.rule_delegations.specs.Forests.{AreDistinct, link_at, place_named, rules_of}
use Rattle.rule_delegations.specs.Marks.{AreMarked, Grows, HasNumber, IsComeUpon, IsMarked}
use Rattle.rule_delegations.proofs.Orders.{Chain}
use Rattle.rule_delegations.proofs.Naming.{in_rule, named_there, there_named}
use Rattle.rule_delegations.proofs.Searched.{found_less}

-- ---- numbers in a list

number_front : (front back : List ℕ) (n : ℕ) → HasNumber front n → HasNumber (front ++ back) n
number_front [] back n h = absurd h
number_front (x ∷ xs) back n h = elim h [ inl here ↦ inl here | inr later ↦ inr (number_front xs back n later) ]

number_back : (front back : List ℕ) (n : ℕ) → HasNumber back n → HasNumber (front ++ back) n
number_back [] back n h = h
number_back (x ∷ xs) back n h = inr (number_back xs back n h)

number_either : (front back : List ℕ) (n : ℕ) → HasNumber (front ++ back) n → HasNumber front n ⊎ HasNumber back n
number_either [] back n h = inr h
number_either (x ∷ xs) back n h = elim h [
  | inl here ↦ inl (inl here)
  | inr later ↦ elim (number_either xs back n later) [ inl early ↦ inl (inr early) | inr late ↦ inr late ]
]

number_at : (xs : List ℕ) (i d : ℕ) → i < length xs → HasNumber xs (get_or xs i d)
number_at [] i d less = absurd (omega (arith, less))
number_at (x ∷ xs) Nat.zero d less = inl refl
number_at (x ∷ xs) (suc i) d less = inr (number_at xs i d (omega (arith, less)))

-- ---- growing

pub grows_nothing : (These : ℕ → Type 0) (marks : List Bool) (order : List ℕ) → Grows These marks order marks order
grows_nothing These marks order = record {
  kept = λ f m. m;
  more = [];
  added = sym (append-nil order);
  new = λ f m. inl m;
  these = λ f h. absurd h;
  count = refl;
  same = refl;
}

pub grows_then : (These Those : ℕ → Type 0) (m1 m2 m3 : List Bool) (o1 o2 o3 : List ℕ) → ((f : ℕ) → These f → Those f) → Grows Those m1 o1 m2 o2 → Grows These m2 o2 m3 o3 → Grows Those m1 o1 m3 o3
grows_then These Those m1 m2 m3 o1 o2 o3 more first second = record {
  kept = λ f m. second.kept f (first.kept f m);
  more = first.more ++ second.more;
  added = second.added ∙ ap (λ (x : List ℕ). x ++ second.more) first.added ∙ append_assoc o1 first.more second.more;
  new = λ f m. elim (second.new f m) [
    | inl was ↦ elim (first.new f was) [ inl early ↦ inl early | inr mid ↦ inr (number_front first.more second.more f mid) ]
    | inr late ↦ inr (number_back first.more second.more f late)
  ];
  these = λ f h. elim (number_either first.more second.more f h) [ inl mid ↦ first.these f mid | inr late ↦ more f (second.these f late) ];
  count = second.count ∙ first.count;
  same = second.same ∙ first.same;
}

-- ---- files below rules

pub link_within : (files : List RuleFile) (place : RuleRef) (file : ℕ) → link_at files place ≡ Some file → file < length files
link_within files place file is = by_rule (rule_at files place) is where
  by_rule : (found : Option Rule) → option_and_then (λ rule. place_named files rule.name) found ≡ Some file → file < length files
  by_rule None e = absurd (cc e)
  by_rule (Some rule) e = let named = named_there files rule.name file e in found_less files file named.file named.is

-- the rule of a link
pub record HasLink (files : List RuleFile) (place : RuleRef) (file : ℕ) : Type 0 where
  pub rule : Rule
  pub is : rule_at files place ≡ Some rule
  pub below : place_named files rule.name ≡ Some file

pub link_rule : (files : List RuleFile) (place : RuleRef) (file : ℕ) → link_at files place ≡ Some file → HasLink files place file
link_rule files place file is = by_rule (rule_at files place) refl is where
  by_rule : (found : Option Rule) → rule_at files place ≡ found → option_and_then (λ rule. place_named files rule.name) found ≡ Some file → HasLink files place file
  by_rule None h e = absurd (cc e)
  by_rule (Some rule) h e = record { rule = rule; is = h; below = e }

pub rule_link : (files : List RuleFile) (place : RuleRef) (rule : Rule) → rule_at files place ≡ Some rule → link_at files place ≡ place_named files rule.name
rule_link files place rule is = ap (λ (found : Option Rule). option_and_then (λ r. place_named files r.name) found) is

pub link_early : (files : List RuleFile) (file at other : ℕ) (rules : List Rule) → rules ≡ rules_of files file → link_at files (record { file = file; rule = at }) ≡ Some other → at < length rules
link_early files file at other rules are is =
    let link = link_rule files (record { file = file; rule = at }) other is in
    found_less rules at link.rule (rw are (in_rule files (record { file = file; rule = at }) link.rule link.is))

-- a chain, and a rule of the file below it
module _ (files : List RuleFile) where
  longer : (from file : ℕ) (chain : Chain) (place : RuleRef) → Leads files from chain → link_at files (last_place chain) ≡ Some file → IsRule files file place → Leads files from (chain ++ place ∷ [])
  longer from file [] place leads link last = absurd leads
  longer from file (p ∷ []) place leads link last =
      let found = link_rule files p file link in
      let one : found.rule ≡ leads.rule = let a = found.is in let b = leads.is in cc in
      let named = named_there files leads.rule.name file (ap (λ (r : Rule). place_named files r.name) (sym one) ∙ found.below) in
      (leads, subst (λ (x : ℕ). IsNamed files x leads.rule.name) (sym last.in_file) named, record { rule = last.rule; in_file = refl; is = last.is })
  longer from file (p ∷ q ∷ qs) place leads link last = (leads.0, leads.1, longer q.file file (q ∷ qs) place leads.2 link last)

  last_longer : (chain : Chain) (place : RuleRef) → last_place (chain ++ place ∷ []) ≡ place
  last_longer [] place = refl
  last_longer (p ∷ []) place = refl
  last_longer (p ∷ q ∷ qs) place = last_longer (q ∷ qs) place

  pub comes_on : (file at other : ℕ) → IsComeUpon files file → link_at files (record { file = file; rule = at }) ≡ Some other → IsComeUpon files other
  comes_on file at other come link =
      let place : RuleRef = record { file = file; rule = at } in
      let found = link_rule files place other link in
      elim come [
        | inl top ↦ inr (place ∷ [], record { rule = found.rule; in_file = top; is = found.is }, link)
        | inr below ↦
            let (chain, leads, is) = below in
            inr (chain ++ place ∷ [], longer 0 file chain place leads is (record { rule = found.rule; in_file = refl; is = found.is }), ap (link_at files) (last_longer chain place) ∙ link)
      ]

  -- what is below a chain is marked, where what is below a marked file's rules is
  pub marked_below : (marks : List Bool) → ((file at other : ℕ) → IsMarked marks file → link_at files (record { file = file; rule = at }) ≡ Some other → IsMarked marks other)
      → AreDistinct files → (from other : ℕ) (chain : Chain) → IsMarked marks from → Leads files from chain → link_at files (last_place chain) ≡ Some other → IsMarked marks other
  marked_below marks closed distinct from other [] marked leads link = absurd leads
  marked_below marks closed distinct from other (p ∷ []) marked leads link =
      closed p.file p.rule other (subst (IsMarked marks) (sym leads.in_file) marked) link
  marked_below marks closed distinct from other (p ∷ q ∷ qs) marked leads link =
      let (first, named, more) = leads in
      let step = rule_link files p first.rule first.is ∙ there_named files first.rule.name q.file distinct named in
      let mid = closed p.file p.rule q.file (subst (IsMarked marks) (sym first.in_file) marked) step in
      marked_below marks closed distinct q.file other (q ∷ qs) mid more link

-- the files below one rule more
pub below_more : (files : List RuleFile) (file at : ℕ) (marks now : List Bool) → ((f : ℕ) → IsMarked marks f → IsMarked now f) → ((rule other : ℕ) → rule < at → link_at files (record { file = file; rule = rule }) ≡ Some other → IsMarked marks other)
    → ((other : ℕ) → link_at files (record { file = file; rule = at }) ≡ Some other → IsMarked now other) → (rule other : ℕ) → rule < at + 1 → link_at files (record { file = file; rule = rule }) ≡ Some other → IsMarked now other
below_more files file at marks now kept before here rule other less link = elim (cases_lt rule at) [
  | inl earlier ↦ kept other (before rule other earlier link)
  | inr last ↦ here other (let same : rule ≡ at = omega (arith, less, last) in subst (λ (x : ℕ). link_at files (record { file = file; rule = x }) ≡ Some other) same link)
]

-- ---- the whole

pub record IsSpread (files : List RuleFile) (marks : List Bool) (order : List ℕ) (at : ℕ) : Type 0 where
  pub top : IsMarked marks 0
  pub same : length marks ≡ length files
  pub early : at ≤ length order
  pub in_order : (file : ℕ) → IsMarked marks file → HasNumber order file
  pub comes : (file : ℕ) → HasNumber order file → IsComeUpon files file
  pub closed : (file : ℕ) → HasNumber (take at order) file → (rule other : ℕ) → link_at files (record { file = file; rule = rule }) ≡ Some other → IsMarked marks other

none_marked : (n file : ℕ) → IsMarked (replicate n false) file → ⊥
none_marked Nat.zero file m = false≢true m
none_marked (suc n) Nat.zero m = false≢true m
none_marked (suc n) (suc file) m = none_marked n file m

pub spread_start : (files : List RuleFile) (n : ℕ) (marks : List Bool) (order : List ℕ) → length (replicate n false) ≡ length files → Grows (λ other. other ≡ 0) (replicate n false) [] marks order → IsMarked marks 0 → IsSpread files marks order 0
spread_start files n marks order count grows top = record {
  top = top;
  same = grows.same ∙ count;
  early = omega arith;
  in_order = λ f m. elim (grows.new f m) [ inl was ↦ absurd (none_marked n f was) | inr here ↦ subst (λ (o : List ℕ). HasNumber o f) (sym grows.added) here ];
  comes = λ f h. inl (grows.these f (subst (λ (o : List ℕ). HasNumber o f) grows.added h));
  closed = λ f h rule other link. absurd h;
}

module _ (files : List RuleFile) (marks now : List Bool) (order later : List ℕ) (at file : ℕ) (less : at < length order) (is : file ≡ get_or order at file) (spread : IsSpread files marks order at)
    (grows : Grows (λ other. (rule : ℕ) × (link_at files (record { file = file; rule = rule }) ≡ Some other)) marks order now later)
    (below : (rule other : ℕ) → link_at files (record { file = file; rule = rule }) ≡ Some other → IsMarked now other) where
  there : HasNumber order file
  there = subst (HasNumber order) (sym is) (number_at order at file less)

  front_of : take (at + 1) later ≡ take at order ++ file ∷ []
  front_of =
      ap (take (at + 1)) grows.added ∙ take-append-le (at + 1) order grows.more (omega arith) ∙ take_more order at file less ∙ ap (λ x. take at order ++ x ∷ []) (sym is)

  pub spread_step : IsSpread files now later (at + 1)
  spread_step = record {
    top = grows.kept 0 spread.top;
    same = grows.same ∙ spread.same;
    early = let e = ap length grows.added in let l = length-append order grows.more in omega (arith, e, l);
    in_order = λ f m. subst (λ (o : List ℕ). HasNumber o f) (sym grows.added) (elim (grows.new f m) [
      | inl was ↦ number_front order grows.more f (spread.in_order f was)
      | inr new ↦ number_back order grows.more f new
    ]);
    comes = λ f h. elim (number_either order grows.more f (subst (λ (o : List ℕ). HasNumber o f) grows.added h)) [
      | inl was ↦ spread.comes f was
      | inr new ↦ let (rule, link) = grows.these f new in comes_on files file rule f (spread.comes file there) link
    ];
    closed = λ f h rule other link. elim (number_either (take at order) (file ∷ []) f (subst (λ (o : List ℕ). HasNumber o f) front_of h)) [
      | inl was ↦ grows.kept other (spread.closed f was rule other link)
      | inr last ↦ elim last [
        | inl here ↦ below rule other (subst (λ (x : ℕ). link_at files (record { file = x; rule = rule }) ≡ Some other) (sym here) link)
        | inr nothing ↦ absurd nothing
      ]
    ];
  }

pub spread_end : (files : List RuleFile) (marks : List Bool) (order : List ℕ) (at : ℕ) → AreDistinct files → length order ≤ at → IsSpread files marks order at → AreMarked files marks
spread_end files marks order at distinct end spread = record {
  marked = λ f m. spread.comes f (spread.in_order f m);
  all = λ f come. elim come [
    | inl top ↦ subst (IsMarked marks) (sym top) spread.top
    | inr below ↦ let (chain, leads, link) = below in marked_below files marks closed distinct 0 f chain spread.top leads link
  ];
} where
  whole : take at order ≡ order
  whole = let same : at ≡ length order = let e = spread.early in omega (arith, e, end) in ap (λ (n : ℕ). take n order) same ∙ take-length order

  closed : (file rule other : ℕ) → IsMarked marks file → link_at files (record { file = file; rule = rule }) ≡ Some other → IsMarked marks other
  closed file rule other marked link = spread.closed file (subst (λ (o : List ℕ). HasNumber o file) (sym whole) (spread.in_order file marked)) rule other link
