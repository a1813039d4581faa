-- How a walk is judged: one lemma for each exit of a loop over entries and for each turn of it.
use Rattle.std.proofs.Common.{◌≡◌, ℕ, suc, zero, ◌≤◌, ◌-◌, ◌+◌, ◌==◌, ◌||◌, ◌&&◌, min, Bool, true, false, cond, not, List, [], ◌∷◌, ◌++◌, length, Option, Some, None, refl, sym, ap, subst, ◌∙◌, inl, inr, arith, length-append}
use Rattle.std.specs.Prelude.{nat_le}
use Rattle.std.proofs.lemmas.Bool.{cases_eq, cases_lt, false≢true, ne_eqb}
use Rattle.std.proofs.lemmas.Bool.Decides.{nat_tests}
use Rattle.git_object.specs.Trees.{sort_key}
use Rattle.git_object.specs.declared.trees.TreeEntry.{TreeEntry}
use Rattle.tree_paths.specs.Readings.{Trees}
use Rattle.tree_paths.specs.Walks.{IfCounted, Step, Visit, below, entry_steps, goes_on, has_room, is_dir, is_open, judge, leaf, listed, one_dir, one_path, opened, place_of, steps, take_step}
use Rattle.tree_paths.specs.declared.counts.Counts.{Counts}
use Rattle.tree_paths.specs.declared.counts.Walked.{Walked}
use Rattle.tree_paths.specs.declared.counts.Walked.TheVariants.{Broken, Counted}

goes_twice : (w : Walked) (f h : Counts → Walked) → goes_on (goes_on w f) h ≡ goes_on w (λ c. goes_on (f c) h)
goes_twice (Broken id) f h = refl
goes_twice (Counted c) f h = refl

same_next : (w : Walked) (f h : Counts → Walked) → ((c : Counts) → f c ≡ h c) → goes_on w f ≡ goes_on w h
same_next (Broken id) f h same = refl
same_next (Counted c) f h same = same c

pub judge_append : (trees : Trees) (xs ys : List Step) (c : Counts) → judge trees (xs ++ ys) c ≡ goes_on (judge trees xs c) (judge trees ys)
judge_append trees [] ys c = refl
judge_append trees (x ∷ xs) ys c =
    same_next (take_step trees c x) (judge trees (xs ++ ys)) (λ d. goes_on (judge trees xs d) (judge trees ys)) (judge_append trees xs ys)
    ∙ sym (goes_twice (take_step trees c x) (judge trees xs) (judge trees ys))

-- ---- a visit

-- what is below a tree, if a level is left for it
abbrev pub below_tree : Trees → ℕ → List ℕ → List ℕ → List Step
below_tree trees left front id = below (steps trees (left - 1)) id front (listed (trees id))

pub steps_zero : (trees : Trees) (front id : List ℕ) → steps trees 0 front id ≡ Visit 0 front id ∷ []
unfolding steps
steps_zero trees front id = refl

pub steps_suc : (trees : Trees) (n : ℕ) (front id : List ℕ) → steps trees (suc n) front id ≡ Visit (suc n) front id ∷ below (steps trees n) id front (listed (trees id))
unfolding steps
steps_suc trees n front id = refl

pub steps_at : (trees : Trees) (left : ℕ) (front id : List ℕ) → 1 ≤ left → steps trees left front id ≡ Visit left front id ∷ below_tree trees left front id
steps_at trees zero front id some = absurd (omega arith)
steps_at trees (suc n) front id some =
    steps_suc trees n front id ∙ ap (λ (m : ℕ). Visit (suc n) front id ∷ below (steps trees m) id front (listed (trees id))) (let e : n ≡ suc n - 1 = omega arith in e)

-- the steps of a tree begin with its visit
pub steps_first : (trees : Trees) (left : ℕ) (front id : List ℕ) → (rest : List Step) × (steps trees left front id ≡ Visit left front id ∷ rest)
steps_first trees zero front id = ([], steps_zero trees front id)
steps_first trees (suc n) front id = (below (steps trees n) id front (listed (trees id)), steps_suc trees n front id)

not_open : (left : ℕ) (root : Bool) (tree : Option (List TreeEntry)) → None ≡ opened left root tree → is_open left root tree ≡ false
not_open left root None e = refl
not_open left root (Some es) e = by_test (nat_le 1 left && (root || not (length es == 0))) e
  where
    by_test : (b : Bool) → None ≡ cond b (Some es) None → b ≡ false
    by_test true e = cc
    by_test false e = refl

pub record Opened (left : ℕ) (root : Bool) (tree : Option (List TreeEntry)) (es : List TreeEntry) : Type 0 where
  pub there : tree ≡ Some es
  pub good : is_open left root tree ≡ true

pub is_opened : (left : ℕ) (root : Bool) (tree : Option (List TreeEntry)) (es : List TreeEntry) → Some es ≡ opened left root tree → Opened left root tree es
is_opened left root None es e = cc
is_opened left root (Some fs) es e = by_test (nat_le 1 left && (root || not (length fs == 0))) refl e
  where
    by_test : (b : Bool) → (nat_le 1 left && (root || not (length fs == 0))) ≡ b → Some es ≡ cond b (Some fs) None → Opened left root (Some fs) es
    by_test true is e = record { there = sym e; good = is }
    by_test false is e = cc

-- a bad visit ends the walk, whatever was counted before
pub judge_shut : (trees : Trees) (left : ℕ) (front id : List ℕ) (root : Bool) (c : Counts) → root ≡ (length front == 0) → None ≡ opened left root (trees id)
    → Broken id ≡ judge trees (steps trees left front id) c
judge_shut trees left front id root c is shut =
    let first = steps_first trees left front id in
    let bad : is_open left (length front == 0) (trees id) ≡ false = ap (λ (b : Bool). is_open left b (trees id)) (sym is) ∙ not_open left root (trees id) shut in
    rw (first.1, bad) refl

-- a good one is counted, and the entries follow
pub judge_open : (trees : Trees) (left : ℕ) (front id : List ℕ) (root : Bool) (es : List TreeEntry) (c : Counts) → 1 ≤ left → root ≡ (length front == 0) → Some es ≡ opened left root (trees id)
    → judge trees (steps trees left front id) c ≡ judge trees (below (steps trees (left - 1)) id front es) (one_dir c)
judge_open trees left front id root es c some is opens =
    let there = is_opened left root (trees id) es opens in
    let good : is_open left (length front == 0) (trees id) ≡ true = ap (λ (b : Bool). is_open left b (trees id)) (sym is) ∙ there.good in
    ap (λ (ss : List Step). judge trees ss c) (steps_at trees left front id some)
    ∙ ap (λ (b : Bool). goes_on (cond b (Counted (one_dir c)) (Broken id)) (judge trees (below_tree trees left front id))) good
    ∙ ap (λ (t : Option (List TreeEntry)). judge trees (below (steps trees (left - 1)) id front (listed t)) (one_dir c)) there.there

-- ---- the steps of entries

-- what an entry leads to
abbrev pub piece_of : (List ℕ → List ℕ → List Step) → List ℕ → List ℕ → TreeEntry → List Step
piece_of into holder front e = entry_steps into holder front e (is_dir e.mode)

module _ (trees : Trees) (into : List ℕ → List ℕ → List Step) (holder front : List ℕ) where
  -- an entry that breaks the walk breaks it all
  pub entry_broken : (whole : Walked) (rest es : List TreeEntry) (e : TreeEntry) (c : Counts) (bad : List ℕ) → whole ≡ judge trees (below into holder front rest) c → rest ≡ e ∷ es
      → Broken bad ≡ judge trees (piece_of into holder front e) c → Broken bad ≡ whole
  entry_broken whole rest es e c bad is at broken =
      sym (is ∙ ap (λ (fs : List TreeEntry). judge trees (below into holder front fs) c) at
      ∙ judge_append trees (piece_of into holder front e) (below into holder front es) c
      ∙ ap (λ (w : Walked). goes_on w (judge trees (below into holder front es))) (sym broken))

  -- and one that counts leaves what follows
  pub entry_counted : (whole : Walked) (rest es : List TreeEntry) (e : TreeEntry) (c d : Counts) → whole ≡ judge trees (below into holder front rest) c → rest ≡ e ∷ es
      → Counted d ≡ judge trees (piece_of into holder front e) c → whole ≡ judge trees (below into holder front es) d
  entry_counted whole rest es e c d is at counted =
      is ∙ ap (λ (fs : List TreeEntry). judge trees (below into holder front fs) c) at
      ∙ judge_append trees (piece_of into holder front e) (below into holder front es) c
      ∙ ap (λ (w : Walked). goes_on w (judge trees (below into holder front es))) (sym counted)

-- ---- lengths

long_room : (c : Counts) (n : ℕ) → 8192 ≤ n → has_room c n ≡ false
long_room c n long = grind (arith, nat_tests)

no_room : (holder : List ℕ) (c : Counts) (n : ℕ) → has_room c n ≡ false → leaf holder n c ≡ Broken holder
no_room holder c n none = ap (λ (b : Bool). cond b (Counted (one_path c n)) (Broken holder)) none

-- a length that is cut tells as much as the whole
pub leaf_cut : (holder : List ℕ) (n long : ℕ) (c : Counts) → long ≡ min n 8192 → leaf holder long c ≡ leaf holder n c
leaf_cut holder n long c is = elim (cases_lt n 8192) [
  | inl less ↦ ap (λ (m : ℕ). leaf holder m c) (omega arith)
  | inr more ↦ no_room holder c long (long_room c long (omega arith)) ∙ sym (no_room holder c n (long_room c n more))
]

pub longer_place : (len long : ℕ) (front : List ℕ) (e : TreeEntry) → len ≡ min (length front) 8192 → long ≡ min (len + length (sort_key e)) 8192 → long ≡ min (length (place_of front e)) 8192
longer_place len long front e is more = rw (length-append front (sort_key e)) (omega arith)

-- ---- what a walk of an entry says, by the entry's kind

pub dir_piece : (trees : Trees) (n : ℕ) (holder front : List ℕ) (e : TreeEntry) (w : Walked) (c : Counts) → is_dir e.mode ≡ true → w ≡ judge trees (steps trees n (place_of front e) e.id) c
    → w ≡ judge trees (piece_of (steps trees n) holder front e) c
dir_piece trees n holder front e w c dir is = is ∙ ap (λ (b : Bool). judge trees (entry_steps (steps trees n) holder front e b) c) (sym dir)

pub leaf_piece : (trees : Trees) (n : ℕ) (holder front : List ℕ) (e : TreeEntry) (w : Walked) (c : Counts) (long : ℕ) → is_dir e.mode ≡ false → long ≡ min (length (place_of front e)) 8192
    → w ≡ leaf holder long c → w ≡ judge trees (piece_of (steps trees n) holder front e) c
leaf_piece trees n holder front e w c long plain is said =
    said ∙ leaf_cut holder (length (place_of front e)) long c is ∙ alone (leaf holder (length (place_of front e)) c)
    ∙ ap (λ (b : Bool). judge trees (entry_steps (steps trees n) holder front e b) c) (sym plain)
  where
    alone : (v : Walked) → v ≡ goes_on v Counted
    alone (Broken id) = refl
    alone (Counted d) = refl

-- a cut length tells the root
pub root_cut : (len n : ℕ) → len ≡ min n 8192 → (len == 0) ≡ (n == 0)
root_cut len n is = elim (cases_eq n 0) [
  | inl zero_is ↦ ap (λ (m : ℕ). m == 0) (let e : len ≡ n = omega arith in e)
  | inr more ↦ ne_eqb len 0 (λ e. omega (arith, e)) ∙ sym (ne_eqb n 0 more)
]

pub counted_is : (P : Counts → Type 0) (w : Walked) (c : Counts) → IfCounted w P → w ≡ Counted c → P c
counted_is P w c h e = subst (λ (v : Walked). IfCounted v P) e h

pub zero_test : (n : ℕ) → (n == 0) ≡ true → n ≡ 0
zero_test n e = elim (cases_eq n 0) [ inl is ↦ is | inr more ↦ absurd (false≢true (sym (ne_eqb n 0 more) ∙ e)) ]

-- the steps of a tree that may be visited
pub open_steps : (trees : Trees) (left : ℕ) (front id : List ℕ) (root : Bool) (es : List TreeEntry) → 1 ≤ left → Some es ≡ opened left root (trees id)
    → steps trees left front id ≡ Visit left front id ∷ below (steps trees (left - 1)) id front es
open_steps trees left front id root es some opens =
    steps_at trees left front id some ∙ ap (λ (t : Option (List TreeEntry)). Visit left front id ∷ below (steps trees (left - 1)) id front (listed t)) ((is_opened left root (trees id) es opens).there)
