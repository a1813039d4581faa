-- The files that are come upon from the top file can be marked.
use Rattle.std.proofs.Common.{◌≡◌, ◌⊎◌, ◌<◌, ◌≤◌, ℕ, suc, zero, Bool, true, false, List, [], ◌∷◌, Option, Some, None, refl, sym, ap, subst, ◌∙◌, inl, inr, arith, length}
use Rattle.std.specs.Prelude.{slice_index_or}
use Rattle.std.proofs.lemmas.Bool.{cases_lt, false≢true}
use Rattle.std.specs.Str.{bytes_eq}
use Rattle.std.proofs.lemmas.Slice.Eq.{bytes_eq-Decides}
use Rattle.rule_files.specs.declared.rules.RuleFile.{RuleFile}
use Rattle.rule_delegations.specs.declared.places.RuleRef.{RuleRef}
use Rattle.rule_delegations.specs.Forests.{AreDistinct, link_at, rules_of}
use Rattle.rule_delegations.specs.Marks.{AreMarked, IsComeUpon, IsMarked}
use Rattle.rule_delegations.proofs.Spreading.{comes_on, link_early, link_within, marked_below}

-- ---- facts that are decided

abbrev pub Decided : Type 0 → Type 0
Decided A = A ⊎ (A → ⊥)

pub is_true : (b : Bool) → Decided (b ≡ true)
is_true true = inl refl
is_true false = inr false≢true

pub is_within : (m n : ℕ) → Decided (m ≤ n)
is_within m n = elim (cases_lt n m) [ inl more ↦ inr (λ h. absurd (omega (arith, more, h))) | inr within ↦ inl within ]

pub is_text : (a b : List ℕ) → Decided (a ≡ b)
is_text a b = elim (is_true (bytes_eq a b)) [ inl same ↦ inl ((bytes_eq-Decides a b).0 same) | inr other ↦ inr (λ e. other ((bytes_eq-Decides a b).1 e)) ]

-- ---- a search below a number

pub below_number : (P : ℕ → Type 0) → ((i : ℕ) → Decided (P i)) → (n : ℕ) → ((i : ℕ) × (i < n) × P i) ⊎ ((i : ℕ) → i < n → P i → ⊥)
below_number P decide zero = inr (λ i less h. absurd (omega (arith, less)))
below_number P decide (suc n) = elim (decide n) [
  | inl here ↦ inl (n, omega arith, here)
  | inr not_here ↦ elim (below_number P decide n) [
    | inl found ↦ (let less = found.1 in inl (found.0, omega (arith, less), found.2))
    | inr none ↦ inr (λ i less h. elim (cases_lt i n) [
      | inl early ↦ none i early h
      | inr late ↦ not_here (let same : i ≡ n = omega (arith, less, late) in subst P same h)
    ])
  ]
]

-- ---- one more mark

abbrev mark_at : List Bool → ℕ → List Bool
mark_at [] n = []
mark_at (b ∷ bs) zero = true ∷ bs
mark_at (b ∷ bs) (suc n) = b ∷ mark_at bs n

-- how many are not marked
abbrev left_open : List Bool → ℕ
left_open [] = 0
left_open (true ∷ bs) = left_open bs
left_open (false ∷ bs) = suc (left_open bs)

mark_length : (bs : List Bool) (n : ℕ) → length (mark_at bs n) ≡ length bs
mark_length [] n = refl
mark_length (b ∷ bs) zero = refl
mark_length (b ∷ bs) (suc n) = ap suc (mark_length bs n)

mark_here : (bs : List Bool) (n : ℕ) → n < length bs → IsMarked (mark_at bs n) n
mark_here [] n less = absurd (omega (arith, less))
mark_here (b ∷ bs) zero less = refl
mark_here (b ∷ bs) (suc n) less = mark_here bs n (omega (arith, less))

mark_kept : (bs : List Bool) (n f : ℕ) → IsMarked bs f → IsMarked (mark_at bs n) f
mark_kept [] n f m = m
mark_kept (b ∷ bs) zero zero m = refl
mark_kept (b ∷ bs) zero (suc f) m = m
mark_kept (b ∷ bs) (suc n) zero m = m
mark_kept (b ∷ bs) (suc n) (suc f) m = mark_kept bs n f m

mark_new : (bs : List Bool) (n f : ℕ) → IsMarked (mark_at bs n) f → IsMarked bs f ⊎ (f ≡ n)
mark_new [] n f m = inl m
mark_new (b ∷ bs) zero zero m = inr refl
mark_new (b ∷ bs) zero (suc f) m = inl m
mark_new (b ∷ bs) (suc n) zero m = inl m
mark_new (b ∷ bs) (suc n) (suc f) m = elim (mark_new bs n f m) [ inl was ↦ inl was | inr same ↦ inr (ap suc same) ]

mark_less : (bs : List Bool) (n : ℕ) → n < length bs → (IsMarked bs n → ⊥) → suc (left_open (mark_at bs n)) ≡ left_open bs
mark_less [] n less open_here = absurd (omega (arith, less))
mark_less (true ∷ bs) zero less open_here = absurd (open_here refl)
mark_less (false ∷ bs) zero less open_here = refl
mark_less (true ∷ bs) (suc n) less open_here = mark_less bs n (omega (arith, less)) open_here
mark_less (false ∷ bs) (suc n) less open_here = ap suc (mark_less bs n (omega (arith, less)) open_here)

marked_early : (bs : List Bool) (n : ℕ) → IsMarked bs n → n < length bs
marked_early [] n m = absurd (false≢true m)
marked_early (b ∷ bs) zero m = omega arith
marked_early (b ∷ bs) (suc n) m = let more = marked_early bs n m in omega (arith, more)

-- ---- from the top file on

module _ (files : List RuleFile) where
  at_rule : ℕ → ℕ → RuleRef
  at_rule file rule = record { file = file; rule = rule }

  -- a marked file has a rule below which a file is not marked
  record Fresh (marks : List Bool) (file rule : ℕ) : Type 0 where
    other : ℕ
    link : link_at files (record { file = file; rule = rule }) ≡ Some other
    marked : IsMarked marks file
    unmarked : IsMarked marks other → ⊥

  fresh_rule : (marks : List Bool) (file rule : ℕ) → Decided (Fresh marks file rule)
  fresh_rule marks file rule = elim (is_true (slice_index_or marks file false)) [
    | inl marked ↦ by_link marked (link_at files (record { file = file; rule = rule })) refl
    | inr unmarked ↦ inr (λ fresh. unmarked fresh.marked)
  ]
    where
      by_link : IsMarked marks file → (link : Option ℕ) → link_at files (record { file = file; rule = rule }) ≡ link → Decided (Fresh marks file rule)
      by_link marked None is = inr (λ fresh. let e = fresh.link in let f : None ≡ Some fresh.other = sym is ∙ e in cc)
      by_link marked (Some other) is = elim (is_true (slice_index_or marks other false)) [
        | inl there ↦ inr (λ fresh. fresh.unmarked (let e : Some other ≡ Some fresh.other = sym is ∙ fresh.link in let same : other ≡ fresh.other = cc in subst (IsMarked marks) same there))
        | inr new ↦ inl (record { other = other; link = is; marked = marked; unmarked = new })
      ]

  -- such a rule of a file
  abbrev FreshIn : List Bool → ℕ → Type 0
  FreshIn marks file = (rule : ℕ) × (rule < length (rules_of files file)) × Fresh marks file rule

  fresh_in : (marks : List Bool) (file : ℕ) → Decided (FreshIn marks file)
  fresh_in marks file = elim (below_number (Fresh marks file) (fresh_rule marks file) (length (rules_of files file))) [
    | inl found ↦ inl found
    | inr none ↦ inr (λ found. none found.0 found.1 found.2)
  ]

  -- what is marked is come upon
  abbrev Sound : List Bool → Type 0
  Sound marks = (file : ℕ) → IsMarked marks file → IsComeUpon files file

  closed_all : (marks : List Bool) → AreDistinct files → length marks ≡ length files → IsMarked marks 0 → Sound marks → ((file : ℕ) → file < length files → FreshIn marks file → ⊥) → AreMarked files marks
  closed_all marks distinct same top sound none = record {
    marked = sound;
    all = λ f come. elim come [
      | inl first ↦ subst (IsMarked marks) (sym first) top
      | inr below ↦ (let (chain, leads, link) = below in marked_below files marks closed distinct 0 f chain top leads link)
    ];
  } where
    closed : (file rule other : ℕ) → IsMarked marks file → link_at files (record { file = file; rule = rule }) ≡ Some other → IsMarked marks other
    closed file rule other marked link = elim (is_true (slice_index_or marks other false)) [
      | inl there ↦ there
      | inr new ↦
          let early = marked_early marks file marked in
          absurd (none file (omega (arith, early, same)) (rule, link_early files file rule other (rules_of files file) refl link, record { other = other; link = link; marked = marked; unmarked = new }))
    ]

  -- what one mark more keeps
  sound_more : (marks : List Bool) (file rule : ℕ) → Sound marks → (fresh : Fresh marks file rule) → Sound (mark_at marks fresh.other)
  sound_more marks file rule sound fresh f m = elim (mark_new marks fresh.other f m) [
    | inl was ↦ sound f was
    | inr same ↦ subst (IsComeUpon files) (sym same) (comes_on files file rule fresh.other (sound file fresh.marked) fresh.link)
  ]

  fewer : (marks : List Bool) (file rule : ℕ) → length marks ≡ length files → (fresh : Fresh marks file rule) → suc (left_open (mark_at marks fresh.other)) ≡ left_open marks
  fewer marks file rule same fresh =
      let within = link_within files (record { file = file; rule = rule }) fresh.other fresh.link in
      mark_less marks fresh.other (omega (arith, within, same)) fresh.unmarked

  spread : (fuel : ℕ) (marks : List Bool) → left_open marks ≤ fuel → AreDistinct files → length marks ≡ length files → IsMarked marks 0 → Sound marks → (found : List Bool) × AreMarked files found
  spread zero marks few distinct same top sound = elim (below_number (FreshIn marks) (fresh_in marks) (length files)) [
    | inl found ↦ (let fresh = found.2.2 in let e = fewer marks found.0 found.2.0 same fresh in absurd (omega (arith, e, few)))
    | inr none ↦ (marks, closed_all marks distinct same top sound none)
  ]
  spread (suc fuel) marks few distinct same top sound = elim (below_number (FreshIn marks) (fresh_in marks) (length files)) [
    | inl found ↦
        let fresh = found.2.2 in
        let e = fewer marks found.0 found.2.0 same fresh in
        spread fuel (mark_at marks fresh.other) (omega (arith, e, few)) distinct (mark_length marks fresh.other ∙ same) (mark_kept marks fresh.other 0 top)
        (sound_more marks found.0 found.2.0 sound fresh)
    | inr none ↦ (marks, closed_all marks distinct same top sound none)
  ]

abbrev none_open : List RuleFile → List Bool
none_open [] = []
none_open (f ∷ fs) = false ∷ none_open fs

none_length : (files : List RuleFile) → length (none_open files) ≡ length files
none_length [] = refl
none_length (f ∷ fs) = ap suc (none_length fs)

none_marked : (files : List RuleFile) (f : ℕ) → IsMarked (none_open files) f → ⊥
none_marked [] f m = false≢true m
none_marked (x ∷ files) zero m = false≢true m
none_marked (x ∷ files) (suc f) m = none_marked files f m

-- of files that have distinct names, those that are come upon from the first are marked
pub marks_are : (top : RuleFile) (files : List RuleFile) → AreDistinct (top ∷ files) → (marks : List Bool) × AreMarked (top ∷ files) marks
marks_are top files distinct =
    spread (top ∷ files) (left_open (true ∷ none_open files)) (true ∷ none_open files) (omega arith) distinct (ap suc (none_length files)) refl sound
  where
    sound : (f : ℕ) → IsMarked (true ∷ none_open files) f → IsComeUpon (top ∷ files) f
    sound zero m = inl refl
    sound (suc f) m = absurd (none_marked files f m)
