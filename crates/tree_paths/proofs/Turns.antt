-- One place of two trees after the other: what is added by what stands there, and what is left.
use Rattle.std.proofs.Common.{◌≡◌, ℕ, ◌+◌, ◌*◌, ◌≤◌, ◌<◌, ◌&&◌, min, Bool, true, false, cond, List, [], ◌∷◌, ◌++◌, length, Option, Some, None, refl, sym, ap, subst, ◌∙◌, append_assoc, ◌⊎◌, inl, inr, arith}
use Rattle.std.specs.Prelude.{nat_le}
use Rattle.std.specs.Str.{bytes_eq}
use Rattle.std.proofs.lemmas.Bool.{cases_lt, false≢true, leb-true}
use Rattle.std.proofs.lemmas.List.{append-nil}
use Rattle.git_object.specs.Trees.{AreWellFormed, sort_key}
use Rattle.git_object.specs.declared.trees.TreeEntry.{TreeEntry}
use Rattle.std.proofs.lemmas.Slice.Eq.{bytes_eq-Decides}
use Rattle.tree_paths.specs.Readings.{Trees}
use Rattle.tree_paths.specs.Walks.{IsFew, Leaf, Step, Visit, below, entry_steps, goes_on, has_room, is_dir, judge, leaf, one_path, place_of, steps}
use Rattle.tree_paths.specs.Listings.{leaves}
use Rattle.tree_paths.specs.Pairings.{Goes, InBoth, IsPaired, Pairing, Sides, both_leaves, change_at, changes, cost, merge, same_value, same_visit}
use Rattle.tree_paths.specs.Places.{AreAfter, AreAtOne, AreDone, IsNext, Kept, OnePath, Rest, Takes, piece, with_first}
use Rattle.tree_paths.specs.declared.counts.Counts.{Counts}
use Rattle.tree_paths.specs.declared.counts.Walked.{Walked}
use Rattle.tree_paths.specs.declared.counts.Walked.TheVariants.{Broken, Counted}
use Rattle.tree_paths.specs.declared.paired_counts.PairCounts.{PairCounts}
use Rattle.tree_paths.specs.declared.paired_counts.Paired.TheVariants.{BothCounted}
use Rattle.tree_paths.proofs.Judging.{leaf_cut, piece_of}
use Rattle.tree_paths.proofs.Merging.{Ahead, changes_append, cost_append, merge_pieces, merge_place}
use Rattle.tree_paths.proofs.Order.{GoesUnder, before_rest, formed_tail, piece_ahead, same_kind}
use Rattle.tree_paths.proofs.Pieces.{alone_both, alone_from, alone_to, counted_dirs}

-- ---- what one place adds

module _ (trees : Trees) (xs : List Step) (a b : Counts) (paths more : List (List ℕ)) (reads reads_after : ℕ) where
  pub sides_from : judge trees xs a ≡ Counted b → more ≡ paths ++ leaves xs → reads_after + a.dirs ≤ reads + b.dirs → Sides xs [] paths more reads reads_after
  sides_from counted listed spent = record {
    changed = listed ∙ ap (λ (ps : List (List ℕ)). paths ++ ps) (sym (alone_from xs).0);
    spent = let dirs = counted_dirs trees xs a b counted in let price = (alone_from xs).1 in omega (arith, dirs, price, spent);
  }

  pub sides_to : judge trees xs a ≡ Counted b → more ≡ paths ++ leaves xs → reads_after + a.dirs ≤ reads + b.dirs → Sides [] xs paths more reads reads_after
  sides_to counted listed spent = record {
    changed = listed ∙ ap (λ (ps : List (List ℕ)). paths ++ ps) (sym (alone_to xs).0);
    spent = let dirs = counted_dirs trees xs a b counted in let price = (alone_to xs).1 in omega (arith, dirs, price, spent);
  }

  pub sides_both : judge trees xs a ≡ Counted b → more ≡ paths → reads_after + a.dirs ≤ reads + b.dirs → Sides xs xs paths more reads reads_after
  sides_both counted same spent = record {
    changed = same ∙ sym (append-nil paths) ∙ ap (λ (ps : List (List ℕ)). paths ++ ps) (sym (alone_both xs).0);
    spent = let dirs = counted_dirs trees xs a b counted in let price = (alone_both xs).1 in omega (arith, dirs, price, spent);
  }

-- two places that are one
pub same_piece : (into : List ℕ → List ℕ → List Step) (holder front : List ℕ) (e f : TreeEntry) → AreAtOne e f → is_dir e.mode ≡ true
    → piece_of into holder front f ≡ into (place_of front e) f.id
same_piece into holder front e f one dir =
    ap (λ (b : Bool). entry_steps into holder front f b) (sym one.kind ∙ dir) ∙ ap (λ (k : List ℕ). into (front ++ k) f.id) (sym one.key)

pub dir_steps : (into : List ℕ → List ℕ → List Step) (holder front : List ℕ) (e : TreeEntry) → is_dir e.mode ≡ true → piece_of into holder front e ≡ into (place_of front e) e.id
dir_steps into holder front e dir = ap (λ (b : Bool). entry_steps into holder front e b) dir

leaf_steps : (into : List ℕ → List ℕ → List Step) (holder front : List ℕ) (e : TreeEntry) → is_dir e.mode ≡ false → piece_of into holder front e ≡ Leaf holder (place_of front e) e.mode e.id ∷ []
leaf_steps into holder front e plain = ap (λ (b : Bool). entry_steps into holder front e b) plain

other_leaf : (into : List ℕ → List ℕ → List Step) (holder front : List ℕ) (e f : TreeEntry) → AreAtOne e f → is_dir e.mode ≡ false
    → piece_of into holder front f ≡ Leaf holder (place_of front e) f.mode f.id ∷ []
other_leaf into holder front e f one plain =
    leaf_steps into holder front f (sym one.kind ∙ plain) ∙ ap (λ (k : List ℕ). Leaf holder (front ++ k) f.mode f.id ∷ []) (sym one.key)

alone : (w : Walked) → goes_on w Counted ≡ w
alone (Broken id) = refl
alone (Counted c) = refl

paired_by : (trees : Trees) (xs ys : List Step) (c : PairCounts) (v w : Walked) → judge trees xs c.from ≡ v → judge trees ys c.to ≡ w → IsPaired trees xs ys c (both_leaves v w)
paired_by trees xs ys c (Broken id) w first second = first
paired_by trees xs ys c (Counted d) (Broken id) first second = second
paired_by trees xs ys c (Counted d) (Counted e) first second = (first, second)

-- two paths at one place
pub leaf_pair : (trees : Trees) (into : List ℕ → List ℕ → List Step) (holder other front : List ℕ) (e f : TreeEntry) (c : PairCounts) (long : ℕ) → AreAtOne e f → is_dir e.mode ≡ false
    → long ≡ min (length (place_of front e)) 8192 → IsPaired trees (piece_of into holder front e) (piece_of into other front f) c (both_leaves (leaf holder long c.from) (leaf other long c.to))
leaf_pair trees into holder other front e f c long one plain is =
    paired_by trees (piece_of into holder front e) (piece_of into other front f) c (leaf holder long c.from) (leaf other long c.to)
    (ap (λ (ss : List Step). judge trees ss c.from) (leaf_steps into holder front e plain) ∙ alone (leaf holder (length (place_of front e)) c.from) ∙ sym (leaf_cut holder (length (place_of front e)) long c.from is))
    (ap (λ (ss : List Step). judge trees ss c.to) (other_leaf into other front e f one plain) ∙ alone (leaf other (length (place_of front e)) c.to) ∙ sym (leaf_cut other (length (place_of front e)) long c.to is))

pub leaf_changes : (into : List ℕ → List ℕ → List Step) (holder other front : List ℕ) (e f : TreeEntry) (b : Bool) → AreAtOne e f → is_dir e.mode ≡ false → same_value (e.mode, e.id) (f.mode, f.id) ≡ b
    → changes (merge (piece_of into holder front e) (piece_of into other front f)) ≡ cond b [] (place_of front e ∷ [])
leaf_changes into holder other front e f b one plain same =
    (λ i. changes (merge (leaf_steps into holder front e plain i) (other_leaf into other front e f one plain i)))
    ∙ ap changes (merge_place (Leaf holder (place_of front e) e.mode e.id) (Leaf other (place_of front e) f.mode f.id) [] [] refl)
    ∙ append-nil (change_at (place_of front e) (Some (e.mode, e.id)) (Some (f.mode, f.id)))
    ∙ ap (λ (k : Bool). cond k [] (place_of front e ∷ [])) same

pub leaf_cost : (into : List ℕ → List ℕ → List Step) (holder other front : List ℕ) (e f : TreeEntry) (n m : ℕ) → n ≤ m → n ≤ m + cost (merge (piece_of into holder front e) (piece_of into other front f))
leaf_cost into holder other front e f n m less = omega arith

-- ---- the next place

-- the first of some entries is less than the first of others
pub next_less : (e f : TreeEntry) (es fs : List TreeEntry) → AreWellFormed (e ∷ es) → AreWellFormed (f ∷ fs) → AreAfter (Some e) (f ∷ fs) → IsNext (e ∷ es) (f ∷ fs) (Some e) None es (f ∷ fs)
next_less e f es fs formed other before = record {
  from_is = refl;
  to_is = refl;
  together = tt;
  from_before = before;
  to_before = tt;
  formed_from = formed_tail e es formed;
  formed_to = other;
}

pub next_greater : (e f : TreeEntry) (es fs : List TreeEntry) → AreWellFormed (e ∷ es) → AreWellFormed (f ∷ fs) → AreAfter (Some f) (e ∷ es) → IsNext (e ∷ es) (f ∷ fs) None (Some f) (e ∷ es) fs
next_greater e f es fs formed other before = record {
  from_is = refl;
  to_is = refl;
  together = tt;
  from_before = tt;
  to_before = before;
  formed_from = formed;
  formed_to = formed_tail f fs other;
}

pub next_equal : (e f : TreeEntry) (es fs : List TreeEntry) → AreWellFormed (e ∷ es) → AreWellFormed (f ∷ fs) → sort_key e ≡ sort_key f → IsNext (e ∷ es) (f ∷ fs) (Some e) (Some f) es fs
next_equal e f es fs formed other key = record {
  from_is = refl;
  to_is = refl;
  together = record { key = key; kind = same_kind e f formed.named.0.no_slash other.named.0.no_slash key };
  from_before = before_rest e f es fs formed other key;
  to_before = before_rest f e fs es other formed (sym key);
  formed_from = formed_tail e es formed;
  formed_to = formed_tail f fs other;
}

-- ---- what is left after a place

below_first : (into : List ℕ → List ℕ → List Step) (holder front : List ℕ) (e : Option TreeEntry) (es : List TreeEntry) → below into holder front (with_first e es) ≡ piece into holder front e ++ below into holder front es
below_first into holder front None es = refl
below_first into holder front (Some e) es = refl

below_is : (into : List ℕ → List ℕ → List Step) (holder front : List ℕ) (e : Option TreeEntry) (rest es : List TreeEntry) → rest ≡ with_first e es → below into holder front rest ≡ piece into holder front e ++ below into holder front es
below_is into holder front e rest es is = ap (below into holder front) is ∙ below_first into holder front e es

pieces_ahead : (into : List ℕ → List ℕ → List Step) → GoesUnder into → (holder other front : List ℕ) (e : Option TreeEntry) (fs : List TreeEntry) → AreAfter e fs → Ahead (piece into holder front e) (below into other front fs)
pieces_ahead into under holder other front None fs after = tt
pieces_ahead into under holder other front (Some e) fs after = piece_ahead into under holder other front e fs after

module _ (trees : Trees) (all_from all_to : List Step) (into : List ℕ → List ℕ → List Step) (from to front : List ℕ) (es fs rest_from rest_to : List TreeEntry) (e f : Option TreeEntry)
    (next : IsNext es fs e f rest_from rest_to) where
  -- the two walks stand before this place
  pub goes_place : (start c : PairCounts) → Goes trees all_from all_to start (below into from front es) (below into to front fs) c
      → Goes trees all_from all_to start (piece into from front e ++ below into from front rest_from) (piece into to front f ++ below into to front rest_to) c
  goes_place start c goes = record {
    first = goes.first ∙ ap (λ (ss : List Step). judge trees ss c.from) (below_is into from front e es rest_from next.from_is);
    second = goes.second ∙ ap (λ (ss : List Step). judge trees ss c.to) (below_is into to front f fs rest_to next.to_is);
  }

  merged : GoesUnder into → merge (below into from front es) (below into to front fs)
      ≡ merge (piece into from front e) (piece into to front f) ++ merge (below into from front rest_from) (below into to front rest_to)
  merged under =
      (λ i. merge (below_is into from front e es rest_from next.from_is i) (below_is into to front f fs rest_to next.to_is i))
      ∙ merge_pieces (piece into from front e) (below into from front rest_from) (piece into to front f) (below into to front rest_to)
      (pieces_ahead into under from to front e rest_to next.from_before) (pieces_ahead into under to from front f rest_from next.to_before)

  -- what is left after this place
  pub place_next : GoesUnder into → (paths_start paths more : List (List ℕ)) (reads_start reads reads_after : ℕ) → Rest all_from all_to paths_start reads_start (below into from front es) (below into to front fs) paths reads
      → Sides (piece into from front e) (piece into to front f) paths more reads reads_after
      → Rest all_from all_to paths_start reads_start (below into from front rest_from) (below into to front rest_to) more reads_after
  place_next under paths_start paths more reads_start reads reads_after rest sides = record {
    changed =
        let here = merge (piece into from front e) (piece into to front f) in
        let later = merge (below into from front rest_from) (below into to front rest_to) in
        rest.changed ∙ ap (λ (ps : List Pairing). paths ++ changes ps) (merged under) ∙ ap (λ (ps : List (List ℕ)). paths ++ ps) (changes_append here later)
        ∙ sym (append_assoc paths (changes here) (changes later)) ∙ ap (λ (ps : List (List ℕ)). ps ++ changes later) (sym sides.changed);
    spent =
        let here = merge (piece into from front e) (piece into to front f) in
        let later = merge (below into from front rest_from) (below into to front rest_to) in
        let sum : cost (merge (below into from front es) (below into to front fs)) ≡ cost here + cost later = ap cost (merged under) ∙ cost_append here later in
        let before = rest.spent in
        let here_spent = sides.spent in
        omega (arith, sum, before, here_spent);
  }

-- the counts of one walk after a place
pub takes_next : (left : ℕ) (e : Option TreeEntry) (rest more : List TreeEntry) (a b : Counts) → left ≤ 32 → Takes e a b → rest ≡ with_first e more → Kept left rest a → Kept left more b
takes_next left None rest more a b few takes is kept = record {
  few = subst (λ (c : Counts). c.paths ≤ 262144) (sym takes) kept.few;
  room = subst (λ (c : Counts). c.dirs + left ≤ 32 * c.paths + 33) (sym takes) kept.room;
  full = λ none less. subst (λ (c : Counts). c.dirs ≤ 32 * c.paths) (sym takes) (kept.full (ap length is ∙ none) less);
}
takes_next left (Some e) rest more a b few takes is kept =
    let room = takes.room (omega arith) in record { few = takes.few; room = omega arith; full = λ none less. room }

-- at the end of both lists
pub kept_few : (left : ℕ) (rest : List TreeEntry) (c : Counts) → left ≤ 32 → 1 ≤ left → rest ≡ [] → Kept left rest c → IsFew left c
kept_few left rest c few some is kept = record { few = kept.few; room = kept.full (ap length is); top = by_level (cases_lt left 32) }
  where
    by_level : (left < 32) ⊎ (32 ≤ left) → c.dirs ≤ 32 * c.paths + 1
    by_level (inl less) = let full = kept.full (ap length is) less in omega (arith, full)
    by_level (inr more) = let room = kept.room in omega (arith, room)

pub rest_done : (all_from all_to : List Step) (paths_start paths : List (List ℕ)) (reads_start reads : ℕ) (into : List ℕ → List ℕ → List Step) (from to front : List ℕ) (es fs : List TreeEntry) → AreDone es fs
    → Rest all_from all_to paths_start reads_start (below into from front es) (below into to front fs) paths reads → Sides all_from all_to paths_start paths reads_start reads
rest_done all_from all_to paths_start paths reads_start reads into from to front es fs done rest =
    let empty : merge (below into from front es) (below into to front fs) ≡ [] = λ i. merge (below into from front (done.from i)) (below into to front (done.to i)) in
    record {
      changed = sym (rest.changed ∙ ap (λ (ps : List Pairing). paths ++ changes ps) empty ∙ append-nil paths);
      spent = let spent = rest.spent in omega (arith, spent);
    }

pub goes_done : (trees : Trees) (all_from all_to : List Step) (start c : PairCounts) (into : List ℕ → List ℕ → List Step) (from to front : List ℕ) (es fs : List TreeEntry) → AreDone es fs
    → Goes trees all_from all_to start (below into from front es) (below into to front fs) c → (judge trees all_from start.from ≡ Counted c.from) × (judge trees all_to start.to ≡ Counted c.to)
goes_done trees all_from all_to start c into from to front es fs done goes =
    (goes.first ∙ ap (λ (gs : List TreeEntry). judge trees (below into from front gs) c.from) done.from, goes.second ∙ ap (λ (gs : List TreeEntry). judge trees (below into to front gs) c.to) done.to)

-- two trees of different ids at one place are read both
pub rest_start : (trees : Trees) (left : ℕ) (front from to : List ℕ) (xs ys : List Step) (paths : List (List ℕ)) (reads reads_after : ℕ) → bytes_eq from to ≡ false
    → steps trees left front from ≡ Visit left front from ∷ xs → steps trees left front to ≡ Visit left front to ∷ ys → reads_after ≤ reads + 2
    → Rest (steps trees left front from) (steps trees left front to) paths reads xs ys paths reads_after
rest_start trees left front from to xs ys paths reads reads_after other first second spent =
    let both : merge (steps trees left front from) (steps trees left front to) ≡ InBoth (Visit left front from) (Visit left front to) ∷ merge xs ys =
    (λ i. merge (first i) (second i)) ∙ merge_place (Visit left front from) (Visit left front to) xs ys refl in
    let differ : same_visit (Visit left front from) (Visit left front to) ≡ false = ap (λ (b : Bool). bytes_eq front front && b) other ∙ and_false (bytes_eq front front) in
    let sum : cost (merge (steps trees left front from) (steps trees left front to)) ≡ cond false 0 1 + 1 + cost (merge xs ys) = ap cost both ∙ ap (λ (b : Bool). cond b 0 1 + 1 + cost (merge xs ys)) differ in
    record { changed = ap (λ (ps : List Pairing). paths ++ changes ps) both; spent = omega (arith, sum, spent) }
  where
    and_false : (b : Bool) → (b && false) ≡ false
    and_false true = refl
    and_false false = refl

pub kept_start : (left : ℕ) (es : List TreeEntry) (a c : Counts) (len : ℕ) → a.paths ≤ 262144 → a.dirs + left ≤ 32 * a.paths + 32 → c.paths ≡ a.paths → c.dirs ≡ a.dirs + 1
    → (length es ≡ 0 → len ≡ 0) → (len ≡ 0 → 32 ≤ left) → Kept left es c
kept_start left es a c len few room paths dirs none all = record {
  few = omega (arith, few, paths);
  room = omega (arith, room, paths, dirs);
  full = λ empty less. let many = all (none empty) in absurd (omega arith);
}

-- the same of lists that are equal
pub is_next : (es gs fs hs : List TreeEntry) (e f : Option TreeEntry) (rest_from rest_to more_from more_to : List TreeEntry) → es ≡ gs → fs ≡ hs → rest_from ≡ more_from → rest_to ≡ more_to
    → IsNext gs hs e f more_from more_to → IsNext es fs e f rest_from rest_to
is_next es gs fs hs e f rest_from rest_to more_from more_to a b c d next =
    subst (λ (x : List TreeEntry). IsNext x fs e f rest_from rest_to) (sym a) (subst (λ (x : List TreeEntry). IsNext gs x e f rest_from rest_to) (sym b)
    (subst (λ (x : List TreeEntry). IsNext gs hs e f x rest_to) (sym c) (subst (λ (x : List TreeEntry). IsNext gs hs e f more_from x) (sym d) next)))

-- what is said of two entries that may be there
pub placed : (P : Option TreeEntry → Option TreeEntry → Type 0) (a b e f : Option TreeEntry) → a ≡ e → b ≡ f → P e f → P a b
placed P a b e f is other p = subst (λ (o : Option TreeEntry). P o b) (sym is) (subst (P e) (sym other) p)

within : (a : Counts) (len : ℕ) → has_room a len ≡ true → a.paths + 1 ≤ 262144
within a len room = by_test (nat_le (a.paths + 1) 262144) refl room
  where
    by_test : (t : Bool) → nat_le (a.paths + 1) 262144 ≡ t → ((t && nat_le len 4096) && nat_le (a.bytes + len) 67108864) ≡ true → a.paths + 1 ≤ 262144
    by_test true is e = leb-true (a.paths + 1) 262144 is
    by_test false is e = absurd (false≢true e)

-- one path that is counted
pub one_path_is : (holder : List ℕ) (len : ℕ) (a b : Counts) → Counted b ≡ leaf holder len a → OnePath a b
one_path_is holder len a b is = by_test (has_room a len) refl is
  where
    by_test : (t : Bool) → has_room a len ≡ t → Counted b ≡ cond t (Counted (one_path a len)) (Broken holder) → OnePath a b
    by_test true room e =
        let same : b ≡ one_path a len = cc in
        let paths : b.paths ≡ a.paths + 1 = ap (λ (c : Counts). c.paths) same in
        let dirs : b.dirs ≡ a.dirs = ap (λ (c : Counts). c.dirs) same in
        let few : a.paths + 1 ≤ 262144 = within a len room in
        record { more = paths; dirs = dirs; few = omega (arith, paths, few) }
    by_test false room e = cc

pub both_paths : (holder other : List ℕ) (len : ℕ) (a c : PairCounts) → BothCounted c ≡ both_leaves (leaf holder len a.from) (leaf other len a.to) → OnePath a.from c.from × OnePath a.to c.to
both_paths holder other len a c is = by_ends (leaf holder len a.from) (leaf other len a.to) refl refl is
  where
    by_ends : (v w : Walked) → leaf holder len a.from ≡ v → leaf other len a.to ≡ w → BothCounted c ≡ both_leaves v w → OnePath a.from c.from × OnePath a.to c.to
    by_ends (Broken id) w p q e = cc
    by_ends (Counted x) (Broken id) p q e = cc
    by_ends (Counted x) (Counted y) p q e =
        let same : c ≡ record { from = x; to = y } = cc in
        (one_path_is holder len a.from c.from (ap (λ (d : PairCounts). Counted d.from) same ∙ sym p), one_path_is other len a.to c.to (ap (λ (d : PairCounts). Counted d.to) same ∙ sym q))

-- one directory of both, with one id
pub twice_piece : (into : List ℕ → List ℕ → List Step) (holder other front : List ℕ) (e f : TreeEntry) → AreAtOne e f → is_dir e.mode ≡ true → bytes_eq e.id f.id ≡ true
    → piece_of into other front f ≡ into (place_of front e) e.id
twice_piece into holder other front e f one dir same =
    same_piece into other front e f one dir ∙ ap (into (place_of front e)) (sym ((bytes_eq-Decides e.id f.id).0 same))

pub paired_at : (P : List Step → List Step → Type 0) (a b x y : List Step) → a ≡ x → b ≡ y → P x y → P a b
paired_at P a b x y is other p = subst (λ (s : List Step). P s b) (sym is) (subst (P x) (sym other) p)

-- what is said of two values
pub both_are : {A : Type 0} (P : A → A → Type 0) (a b e f : A) → a ≡ e → b ≡ f → P e f → P a b
both_are {A = A} P a b e f is other p = subst (λ (o : A). P o b) (sym is) (subst (P e) (sym other) p)
