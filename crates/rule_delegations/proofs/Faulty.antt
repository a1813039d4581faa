-- Rule files have a first fault, or none.
use Rattle.std.proofs.Common.{◌≡◌, ◌⊎◌, ◌+◌, ◌-◌, ◌++◌, ◌<◌, ◌≤◌, ℕ, suc, zero, Bool, true, false, cond, List, [], ◌∷◌, Option, Some, None, refl, sym, ap, subst, ◌∙◌, inl, inr, arith, length}
use Rattle.std.specs.Prelude.{slice_get, slice_index_or, IsSome, is_some}
use Rattle.std.specs.Ordering.{ordering_reverse}
use Rattle.std.specs.Str.{bytes_eq}
use Rattle.std.specs.declared.cmp.Ordering.{Ordering}
use Rattle.std.specs.declared.cmp.Ordering.TheVariants.{Less, Equal, Greater}
use Rattle.std.proofs.lemmas.Bool.{cases_eq, false≢true}
use Rattle.std.proofs.lemmas.Cmp.{nat_list_cmp_total}
use Rattle.std.proofs.lemmas.List.Sums.{sum_by-append}
use Rattle.std.proofs.lemmas.Option.{slice_get_cases}
use Rattle.std.proofs.lemmas.Slice.Eq.{bytes_eq-Decides}
use Rattle.octets.specs.BytesMap.{by_bytes}
use Rattle.rule_files.specs.declared.rules.Rule.{Rule}
use Rattle.rule_files.specs.declared.rules.RuleFile.{RuleFile}
use Rattle.rule_delegations.specs.Assembling.{IsCutOff, IsFirstFault, IsFirstName, IsTwice, NoName, excess, file_names, rule_names, times}
use Rattle.rule_delegations.specs.Chains.{IsNamed, rule_at}
use Rattle.rule_delegations.specs.Deep.{BeginsAt, BeginsIn, EndsFirst, IsDeepName, IsFirstEnd}
use Rattle.rule_delegations.specs.Forests.{AreDistinct, link_at, rules_of}
use Rattle.rule_delegations.specs.Marks.{AreMarked, IsMarked}
use Rattle.rule_delegations.specs.declared.assembling.AssembleFault.{AssembleFault}
use Rattle.rule_delegations.specs.declared.assembling.AssembleFault.TheVariants.{DuplicateName, Unreachable, TooDeep, TooMany}
use Rattle.rule_delegations.specs.declared.places.RuleRef.{RuleRef}
use Rattle.rule_delegations.proofs.Deepening.{alone, below_link, below_none, deep_end, deep_here, deep_later, end_there, first_deep, none_deep}
use Rattle.rule_delegations.proofs.Faults.{no_file, none_first_deep, once_distinct, passed}
use Rattle.rule_delegations.proofs.Naming.{rule_in}
use Rattle.rule_delegations.proofs.Offcuts.{IsOff, cut_off, off_cut}
use Rattle.rule_delegations.proofs.Closing.{Decided, below_number, is_text, is_true, is_within, marks_are}

-- ---- the least name of a kind

abbrev In : List (List ℕ) → List ℕ → Type 0
In [] name = ⊥
In (x ∷ xs) name = (x ≡ name) ⊎ In xs name

in_front : (front back : List (List ℕ)) (name : List ℕ) → In front name → In (front ++ back) name
in_front [] back name h = absurd h
in_front (x ∷ xs) back name h = elim h [ inl here ↦ inl here | inr later ↦ inr (in_front xs back name later) ]

in_back : (front back : List (List ℕ)) (name : List ℕ) → In back name → In (front ++ back) name
in_back [] back name h = h
in_back (x ∷ xs) back name h = inr (in_back xs back name h)

not_less_itself : (name : List ℕ) → by_bytes name name ≡ Less → ⊥
not_less_itself name less = let e : Less ≡ ordering_reverse Less = sym less ∙ nat_list_cmp_total.antisymm name name ∙ ap ordering_reverse less in cc

module _ (P : List ℕ → Type 0) where
  abbrev LeastIn : List (List ℕ) → Option (List ℕ) → Type 0
  LeastIn names None = (name : List ℕ) → In names name → P name → ⊥
  LeastIn names (Some least) = P least × ((other : List ℕ) → In names other → P other → by_bytes other least ≡ Less → ⊥)

  less_first : (x : List ℕ) (xs : List (List ℕ)) (found : Option (List ℕ)) → P x → LeastIn xs found → (least : Option (List ℕ)) × LeastIn (x ∷ xs) least
  less_first x xs None here none =
      (Some x, (here, λ other h p less. elim h [ inl same ↦ not_less_itself x (subst (λ (n : List ℕ). by_bytes n x ≡ Less) (sym same) less) | inr later ↦ none other later p ]))
  less_first x xs (Some least) here is = by_order (by_bytes x least) refl where
    by_order : (o : Ordering) → by_bytes x least ≡ o → (found : Option (List ℕ)) × LeastIn (x ∷ xs) found
    by_order Less h = (
      Some x,
      (
        here,
        λ other there p less. elim there [
          | inl same ↦ not_less_itself x (subst (λ (n : List ℕ). by_bytes n x ≡ Less) (sym same) less)
          | inr later ↦ is.1 other later p (nat_list_cmp_total.trans other x least less h)
        ],
      ),
    )
    by_order Equal h = (Some least, (is.0, λ other there p less. elim there [ inl same ↦ (let e : Equal ≡ Less = sym h ∙ ap (λ (n : List ℕ). by_bytes n least) same ∙ less in cc) | inr later ↦ is.1 other later p less ]))
    by_order Greater h = (Some least, (is.0, λ other there p less. elim there [ inl same ↦ (let e : Greater ≡ Less = sym h ∙ ap (λ (n : List ℕ). by_bytes n least) same ∙ less in cc) | inr later ↦ is.1 other later p less ]))

  less_rest : (x : List ℕ) (xs : List (List ℕ)) (found : Option (List ℕ)) → (P x → ⊥) → LeastIn xs found → LeastIn (x ∷ xs) found
  less_rest x xs None not_here none = λ name h p. elim h [ inl same ↦ not_here (subst P (sym same) p) | inr later ↦ none name later p ]
  less_rest x xs (Some least) not_here is =
      (is.0, λ other h p less. elim h [ inl same ↦ not_here (subst P (sym same) p) | inr later ↦ is.1 other later p less ])

  least_in : ((name : List ℕ) → Decided (P name)) → (names : List (List ℕ)) → (found : Option (List ℕ)) × LeastIn names found
  least_in decide [] = (None, λ name h p. h)
  least_in decide (x ∷ xs) = elim (decide x) [
    | inl here ↦ less_first x xs (least_in decide xs).0 here (least_in decide xs).1
    | inr not_here ↦ ((least_in decide xs).0, less_rest x xs (least_in decide xs).0 not_here (least_in decide xs).1)
  ]

  first_name : ((name : List ℕ) → Decided (P name)) → (names : List (List ℕ)) → ((name : List ℕ) → P name → In names name) → (found : Option (List ℕ)) × IsFirstName P found
  first_name decide names covers = ((least_in decide names).0, by_found (least_in decide names).0 (least_in decide names).1) where
    by_found : (found : Option (List ℕ)) → LeastIn names found → IsFirstName P found
    by_found None none = λ name p. none name (covers name p) p
    by_found (Some least) is = record { has = is.0; least = λ other p less. is.1 other (covers other p) p less }

-- ---- names that stand twice

times_front : (q name : List ℕ) (names : List (List ℕ)) → times q (name ∷ names) ≡ 0 + cond (bytes_eq q name) 1 0 + times q names
times_front q name names = sum_by-append (λ x. cond (bytes_eq q x) 1 0) (name ∷ []) names

times_in : (name : List ℕ) (names : List (List ℕ)) → 1 ≤ times name names → In names name
times_in name [] some = absurd (omega (arith, some))
times_in name (x ∷ xs) some = elim (is_true (bytes_eq name x)) [
  | inl same ↦ inl (sym ((bytes_eq-Decides name x).0 same))
  | inr other ↦ inr (times_in name xs (later (bytes_eq name x) other (times_front name x xs)))
]
  where
    later : (b : Bool) → (b ≡ true → ⊥) → times name (x ∷ xs) ≡ 0 + cond b 1 0 + times name xs → 1 ≤ times name xs
    later true never e = absurd (never refl)
    later false never e = omega (arith, e, some)

twice_decided : (files : List RuleFile) (name : List ℕ) → Decided (IsTwice files name)
twice_decided files name = elim (is_within 2 (times name (rule_names files))) [
  | inl rules ↦ inl (inl rules)
  | inr no_rules ↦ elim (is_within 2 (times name (file_names files))) [
    | inl names ↦ inl (inr names)
    | inr no_names ↦ inr (λ h. elim h [ inl rules ↦ no_rules rules | inr names ↦ no_names names ])
  ]
]

pub first_twice : (files : List RuleFile) → (found : Option (List ℕ)) × IsFirstName (IsTwice files) found
first_twice files =
    first_name (IsTwice files) (twice_decided files) (rule_names files ++ file_names files)
    (λ name h. elim h [
      | inl rules ↦ in_front (rule_names files) (file_names files) name (times_in name (rule_names files) (omega (arith, rules)))
      | inr names ↦ in_back (rule_names files) (file_names files) name (times_in name (file_names files) (omega (arith, names)))
    ])

-- ---- files that hang on no chain

named_in : (files : List RuleFile) (at : ℕ) (file : RuleFile) (name : List ℕ) → slice_get files at ≡ Some file → file.name ≡ name → In (file_names files) name
named_in [] at file name is named = absurd (cc is)
named_in (f ∷ fs) zero file name is named = let one : f ≡ file = cc in inl (ap (λ (x : RuleFile). x.name) one ∙ named)
named_in (f ∷ fs) (suc at) file name is named = inr (named_in fs at file name is named)

module _ (files : List RuleFile) (marks : List Bool) where
  abbrev OffAt : List ℕ → ℕ → Type 0
  OffAt name at = IsNamed files at name × (IsMarked marks at → ⊥)

  off_at : (name : List ℕ) (at : ℕ) → Decided (OffAt name at)
  off_at name at = elim (is_true (slice_index_or marks at false)) [
    | inl marked ↦ inr (λ off. off.1 marked)
    | inr unmarked ↦ by_file unmarked (slice_get files at) refl
  ]
    where
      by_file : (IsMarked marks at → ⊥) → (found : Option RuleFile) → slice_get files at ≡ found → Decided (OffAt name at)
      by_file unmarked None is = inr (λ off. let e : None ≡ Some off.0.file = sym is ∙ off.0.is in cc)
      by_file unmarked (Some file) is = elim (is_text file.name name) [
        | inl same ↦ inl (record { file = file; is = is; named = same }, unmarked)
        | inr other ↦ inr (λ off. let e : Some file ≡ Some off.0.file = sym is ∙ off.0.is in let one : file ≡ off.0.file = cc in other (ap (λ (x : RuleFile). x.name) one ∙ off.0.named))
      ]

  off_decided : (name : List ℕ) → Decided (IsOff files marks (length files) name)
  off_decided name = elim (below_number (OffAt name) (off_at name) (length files)) [
    | inl found ↦ inl (record { at = found.0; early = found.1; is = found.2.0; unmarked = found.2.1 })
    | inr none ↦ inr (λ off. none off.at off.early (off.is, off.unmarked))
  ]

  pub first_off : AreDistinct files → AreMarked files marks → (found : Option (List ℕ)) × IsFirstName (IsCutOff files) found
  first_off distinct are =
      first_name (IsCutOff files)
      (λ name. elim (off_decided name) [
        | inl off ↦ inl (off_cut files marks distinct are name off)
        | inr none ↦ inr (λ cut. none (cut_off files marks distinct are name cut))
      ])
      (file_names files) (λ name cut. named_in files cut.at cut.is.file name cut.is.is cut.is.named)

-- ---- chains that are too long

module _ (files : List RuleFile) (distinct : AreDistinct files) where
  abbrev EndFound : (List RuleRef → Type 0) → Type 0
  EndFound These = (found : Option RuleRef) × IsFirstEnd These found

  -- from a rule, where what is below it is known
  at_rule : (n : ℕ) (file at : ℕ) → at < length (rules_of files file) → ((below : ℕ) → 0 < n → EndFound (BeginsIn files below 0 n)) → EndFound (BeginsAt files (record { file = file; rule = at }) (suc n))
  at_rule n file at less below = by_left (cases_eq n 0)
    where
      place : RuleRef
      place = record { file = file; rule = at }

      many : (n ≡ 0 → ⊥) → suc n ≡ 1 → ⊥
      many some e = some (omega (arith, e))

      by_link : (n ≡ 0 → ⊥) → (link : Option ℕ) → link_at files (record { file = file; rule = at }) ≡ link → EndFound (BeginsAt files (record { file = file; rule = at }) (suc n))
      by_link some None is = (None, below_none files distinct (record { file = file; rule = at }) (suc n) (many some) is)
      by_link some (Some other) is =
          let next = below other (omega (arith, some)) in
          let same : suc n - 1 ≡ n = omega arith in
          (next.0, below_link files distinct (record { file = file; rule = at }) (suc n) other next.0 (many some) (omega arith) is (subst (λ (m : ℕ). IsFirstEnd (BeginsIn files other 0 m) next.0) (sym same) next.1))

      there : IsSome (rule_at files (record { file = file; rule = at }))
      there = elim (slice_get_cases (rules_of files file) at).1 [
        | inl found ↦ ap is_some (rule_in files file at found.0 found.2)
        | inr past ↦ (let end = past.0 in absurd (omega (arith, end, less)))
      ]

      by_left : (n ≡ 0) ⊎ (n ≡ 0 → ⊥) → EndFound (BeginsAt files (record { file = file; rule = at }) (suc n))
      by_left (inl last) = (Some (record { file = file; rule = at }), alone files distinct (record { file = file; rule = at }) (suc n) there (ap suc last))
      by_left (inr some) = by_link some (link_at files (record { file = file; rule = at })) refl

  -- from a rule of a file on
  from_rule : (n file : ℕ) → ((below : ℕ) → 0 < n → EndFound (BeginsIn files below 0 n)) → (k at : ℕ) → at + k ≡ length (rules_of files file) → EndFound (BeginsIn files file at (suc n))
  from_rule n file below zero at count = (None, deep_end files distinct file at (suc n) (rules_of files file) refl (omega (arith, count)))
  from_rule n file below (suc k) at count = by_found (at_rule n file at (omega (arith, count)) below).0 (at_rule n file at (omega (arith, count)) below).1 (from_rule n file below k (at + 1) (omega (arith, count)))
    where
      by_found : (found : Option RuleRef) → IsFirstEnd (BeginsAt files (record { file = file; rule = at }) (suc n)) found → EndFound (BeginsIn files file (at + 1) (suc n)) → EndFound (BeginsIn files file at (suc n))
      by_found None none rest = (rest.0, deep_later files distinct file at (suc n) rest.0 none rest.1)
      by_found (Some end) is rest = (Some end, deep_here files distinct file at (suc n) end is)

  from_file : (n file : ℕ) → 0 < n → EndFound (BeginsIn files file 0 n)
  from_file zero file some = absurd (omega (arith, some))
  from_file (suc n) file some = from_rule n file (λ below more. from_file n below more) (length (rules_of files file)) 0 (omega arith)

  deep_found : (found : Option (List ℕ)) × IsDeepName files found
  deep_found = by_end (from_file 9 0 (omega arith)).0 (from_file 9 0 (omega arith)).1 where
    by_rule : (place : RuleRef) → EndsFirst (BeginsIn files 0 0 9) place → (rule : Option Rule) → rule_at files place ≡ rule → IsSome (rule_at files place) → (found : Option (List ℕ)) × IsDeepName files found
    by_rule place first None is there = absurd (false≢true (sym (ap is_some is) ∙ there))
    by_rule place first (Some rule) is there = (Some rule.name, first_deep files distinct place rule rule.name first is refl)

    by_end : (found : Option RuleRef) → IsFirstEnd (BeginsIn files 0 0 9) found → (name : Option (List ℕ)) × IsDeepName files name
    by_end None none = (None, none_deep files distinct none)
    by_end (Some place) first = by_rule place first (rule_at files place) refl (end_there files distinct place first)

-- ---- all of them

pub faults_are : (files : List RuleFile) → (found : Option AssembleFault) × IsFirstFault files found
faults_are [] = (None, no_file [] refl)
faults_are (top ∷ files) = by_twice (first_twice (top ∷ files)).0 (first_twice (top ∷ files)).1 where
  by_count : NoName (IsTwice (top ∷ files)) → NoName (IsCutOff (top ∷ files)) → IsDeepName (top ∷ files) None → (count : Option ℕ) → excess (top ∷ files) ≡ count → (found : Option AssembleFault) × IsFirstFault (top ∷ files) found
  by_count twice cut deep None is = (None, passed (top ∷ files) (top ∷ files) None twice cut deep refl (sym is) refl)
  by_count twice cut deep (Some count) is = (Some (TooMany count), (twice, cut, none_first_deep (top ∷ files) deep, is))

  by_deep : NoName (IsTwice (top ∷ files)) → NoName (IsCutOff (top ∷ files)) → (deep : Option (List ℕ)) → IsDeepName (top ∷ files) deep → (found : Option AssembleFault) × IsFirstFault (top ∷ files) found
  by_deep twice cut None none = by_count twice cut none (excess (top ∷ files)) refl
  by_deep twice cut (Some name) first = (Some (TooDeep name), (twice, cut, first))

  by_cut : NoName (IsTwice (top ∷ files)) → AreDistinct (top ∷ files) → (cut : Option (List ℕ)) → IsFirstName (IsCutOff (top ∷ files)) cut → (found : Option AssembleFault) × IsFirstFault (top ∷ files) found
  by_cut twice distinct None none = by_deep twice none (deep_found (top ∷ files) distinct).0 (deep_found (top ∷ files) distinct).1
  by_cut twice distinct (Some name) least = (Some (Unreachable name), (twice, least))

  by_marks : NoName (IsTwice (top ∷ files)) → AreDistinct (top ∷ files) → (marks : List Bool) × AreMarked (top ∷ files) marks → (found : Option AssembleFault) × IsFirstFault (top ∷ files) found
  by_marks twice distinct marks = by_cut twice distinct (first_off (top ∷ files) marks.0 distinct marks.1).0 (first_off (top ∷ files) marks.0 distinct marks.1).1

  by_twice : (twice : Option (List ℕ)) → IsFirstName (IsTwice (top ∷ files)) twice → (found : Option AssembleFault) × IsFirstFault (top ∷ files) found
  by_twice None none = let distinct = once_distinct (top ∷ files) none in by_marks none distinct (marks_are top files distinct)
  by_twice (Some name) least = (Some (DuplicateName name), least)
