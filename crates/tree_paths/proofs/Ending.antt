-- How two walks end, and what is answered of them.
use Rattle.std.proofs.Common.{◌≡◌, ◌≢◌, ℕ, ◌+◌, ◌≤◌, ◌==◌, ◌&&◌, Bool, true, false, cond, not, IsTrue, List, [], Option, Some, None, refl, sym, ap, subst, ◌∙◌, inl, inr, arith}
use Rattle.std.specs.Prelude.{◌↔◌}
use Rattle.std.specs.FinMap.{find, get, get-from_entries}
use Rattle.std.specs.Str.{bytes_eq}
use Rattle.std.proofs.lemmas.Bool.{cases_eq, eq-eqb, false≢true, ne_eqb, true≢false}
use Rattle.std.proofs.lemmas.Cmp.{nat_list_cmp_total}
use Rattle.std.proofs.lemmas.Slice.Eq.{bytes_eq-Decides}
use Rattle.octets.specs.BytesMap.{by_bytes}
use Rattle.git_object.specs.Repository.{Repository}
use Rattle.git_object.specs.declared.modes.Mode.{Mode}
use Rattle.git_object.specs.declared.modes.Mode.TheVariants.{Dir, Exec, File, Link, Module}
use Rattle.tree_paths.specs.Changes.{AreChanged, IfChanged, IsChange, has_path, own, shared_reads}
use Rattle.tree_paths.specs.Listings.{visits}
use Rattle.tree_paths.specs.Pairings.{IsPaired, Sides, alike, changes, merge, mode_number, same_value}
use Rattle.tree_paths.specs.Readings.{Readings, Told, Trees}
use Rattle.tree_paths.specs.Roots.{no_pair_counts, root_ended, root_id, root_steps}
use Rattle.tree_paths.specs.States.{Ended, Faulty, PathValue, dirs_at, ended_by, is_sound, map_at, path_map, path_values, steps_in, tree_at}
use Rattle.tree_paths.specs.Walks.{Step, judge, no_counts, steps}
use Rattle.tree_paths.specs.declared.counts.Counts.{Counts}
use Rattle.tree_paths.specs.declared.counts.Walked.{Walked}
use Rattle.tree_paths.specs.declared.counts.Walked.TheVariants as walked
use Rattle.tree_paths.specs.declared.paired_counts.PairCounts.{PairCounts}
use Rattle.tree_paths.specs.declared.paired_counts.Paired.TheVariants as paired
use Rattle.tree_paths.specs.declared.states.Comparison.{Comparison}
use Rattle.tree_paths.specs.declared.states.Comparison.TheVariants as comparison
use Rattle.tree_paths.proofs.Differing.{Rising, merge_cost, merge_differs, merge_rises}
use Rattle.tree_paths.proofs.ObjectsRead.{tree_formed}
use Rattle.tree_paths.proofs.Pieces.{counted_dirs}
use Rattle.tree_paths.proofs.Rising.{steps_rise}

-- ---- values that are alike

abbrev mode_of : ℕ → Mode
mode_of n = cond (n == 0) Dir (cond (n == 1) File (cond (n == 2) Exec (cond (n == 3) Link Module)))

mode_back : (m : Mode) → mode_of (mode_number m) ≡ m
mode_back Dir = refl
mode_back File = refl
mode_back Exec = refl
mode_back Link = refl
mode_back Module = refl

and_true : (a b : Bool) → (a && b) ≡ true → (a ≡ true) × (b ≡ true)
and_true true b e = (refl, e)
and_true false b e = absurd (false≢true e)

eq_test : (m n : ℕ) → (m == n) ≡ true → m ≡ n
eq_test m n e = elim (cases_eq m n) [ inl same ↦ same | inr other ↦ absurd (false≢true (sym (ne_eqb m n other) ∙ e)) ]

same_values : (v w : PathValue) → same_value v w ≡ true → v ≡ w
same_values v w e =
    let both = and_true (mode_number v.0 == mode_number w.0) (bytes_eq v.1 w.1) e in
    let number = eq_test (mode_number v.0) (mode_number w.0) both.0 in
    let mode : v.0 ≡ w.0 = sym (mode_back v.0) ∙ ap mode_of number ∙ mode_back w.0 in
    let id = (bytes_eq-Decides v.1 w.1).0 both.1 in
    λ i. (mode i, id i)

alike_same : (v w : Option PathValue) → alike v w ≡ true → v ≡ w
alike_same None None e = refl
alike_same None (Some w) e = absurd (false≢true e)
alike_same (Some v) None e = absurd (false≢true e)
alike_same (Some v) (Some w) e = ap Some (same_values v w e)

value_alike : (v : Option PathValue) → alike v v ≡ true
value_alike None = refl
value_alike (Some v) = (λ i. eq-eqb (mode_number v.0) (mode_number v.0) refl i && (bytes_eq-Decides v.1 v.1).1 refl i)

pub differs_tells : (v w : Option PathValue) (b : Bool) → b ≡ not (alike v w) → IsTrue b ↔ (v ≢ w)
differs_tells v w b is = by_test (alike v w) refl b is
  where
    by_test : (t : Bool) → alike v w ≡ t → (b : Bool) → b ≡ not t → IsTrue b ↔ (v ≢ w)
    by_test true e true is = absurd (true≢false is)
    by_test true e false is = (λ h. absurd (false≢true h), λ other. absurd (other (alike_same v w e)))
    by_test false e true is = ((λ h same. false≢true (sym e ∙ ap (λ (x : Option PathValue). alike x w) same ∙ value_alike w)), λ other. refl)
    by_test false e false is = absurd (false≢true is)

-- ---- the changed paths of two rising walks

got : (xs : List Step) (p : List ℕ) → find by_bytes p (path_values xs) ≡ get (path_map xs) p
got xs p = sym (get-from_entries nat_list_cmp_total (path_values xs) p)

changed_of : (xs ys : List Step) (paths : List (List ℕ)) → Rising xs → Rising ys → paths ≡ changes (merge xs ys) → AreChanged (path_map xs) (path_map ys) paths
changed_of xs ys paths rising other is =
    subst (AreChanged (path_map xs) (path_map ys)) (sym is) (record {
      rising = merge_rises xs ys rising other;
      changed = λ p. differs_tells (get (path_map xs) p) (get (path_map ys) p) (has_path (changes (merge xs ys)) p)
          (merge_differs xs ys p rising other ∙ (λ i. not (alike (got xs p i) (got ys p i))));
    })

-- a walk that ends with this tree and these steps
pub record EndsIn (s : Ended) (tree : List ℕ) (xs : List Step) : Type 0 where
  pub sound : is_sound s ≡ true
  pub tree_is : tree ≡ tree_at s
  pub steps_are : steps_in s ≡ xs
  pub dirs : dirs_at s ≡ visits xs

pub counted_ends : (trees : Trees) (tree : List ℕ) (c : Counts) → judge trees (steps trees 32 [] tree) no_counts ≡ walked.Counted c → EndsIn (ended_by tree (steps trees 32 [] tree) (walked.Counted c)) tree (steps trees 32 [] tree)
counted_ends trees tree c counted = record {
  sound = refl;
  tree_is = refl;
  steps_are = refl;
  dirs = let dirs = counted_dirs trees (steps trees 32 [] tree) no_counts c counted in omega (arith, dirs);
}

root_ends : (trees : Trees) (root : Option (List ℕ)) (c : Counts) → judge trees (root_steps trees root) no_counts ≡ walked.Counted c → EndsIn (root_ended trees root) (root_id root) (root_steps trees root)
root_ends trees None c counted = record { sound = refl; tree_is = refl; steps_are = refl; dirs = refl }
root_ends trees (Some tree) c counted =
    subst (λ (w : Walked). EndsIn (ended_by tree (steps trees 32 [] tree) w) tree (steps trees 32 [] tree)) (sym counted) (counted_ends trees tree c counted)

root_rises : (readings : Readings) {content : Option Repository} → Told content readings → (root : Option (List ℕ)) → Rising (root_steps readings.trees root)
root_rises readings told None = tt
root_rises readings told (Some tree) =
    steps_rise readings.trees (λ id. tree_formed told.repository id (readings.trees id) (told.are.trees id)) 32 [] tree

pub record Compared (s t : Ended) (from to : List ℕ) (paths : List (List ℕ)) (reads reads_after : ℕ) : Type 0 where
  pub change : IsChange s t from to paths
  pub spent : reads_after ≤ reads + shared_reads s t

compared_of : (s t : Ended) (from to : List ℕ) (xs ys : List Step) (paths : List (List ℕ)) (reads reads_after : ℕ) → Rising xs → Rising ys → EndsIn s from xs → EndsIn t to ys
    → Sides xs ys [] paths reads reads_after → Compared s t from to paths reads reads_after
compared_of s t from to xs ys paths reads reads_after rising other a b sides = record {
  change = record {
    from_sound = a.sound;
    to_sound = b.sound;
    from_is = a.tree_is;
    to_is = b.tree_is;
    changed = (let all = changed_of xs ys paths rising other sides.changed in subst (λ (zs : List Step). AreChanged (path_map zs) (map_at t) paths) (sym a.steps_are) (subst (λ (zs : List Step). AreChanged (path_map xs) (path_map zs) paths) (sym b.steps_are) all));
  };
  spent =
      let sum = merge_cost xs ys rising other in
      let dirs = b.dirs in
      let less = sides.spent in
      let owned : own (steps_in s) (steps_in t) ≡ own xs ys = (λ i. own (a.steps_are i) (b.steps_are i)) in
      omega (arith, sum, dirs, less, owned);
}

-- two walks that count are compared
pub both_compared : (readings : Readings) {content : Option Repository} → Told content readings → (from to : Option (List ℕ)) (c : PairCounts) (paths : List (List ℕ)) (reads reads_after : ℕ)
    → IsPaired readings.trees (root_steps readings.trees from) (root_steps readings.trees to) no_pair_counts (paired.BothCounted c)
    → Sides (root_steps readings.trees from) (root_steps readings.trees to) [] paths reads reads_after
    → Compared (root_ended readings.trees from) (root_ended readings.trees to) (root_id from) (root_id to) paths reads reads_after
both_compared readings told from to c paths reads reads_after counted sides =
    compared_of (root_ended readings.trees from) (root_ended readings.trees to) (root_id from) (root_id to) (root_steps readings.trees from) (root_steps readings.trees to) paths reads reads_after
    (root_rises readings told from) (root_rises readings told to) (root_ends readings.trees from c.from counted.0) (root_ends readings.trees to c.to counted.1) sides

-- ---- where a walk is bad

pub root_faulty : (trees : Trees) (root : Option (List ℕ)) (bad : List ℕ) → judge trees (root_steps trees root) no_counts ≡ walked.Broken bad → root_ended trees root ≡ Faulty bad
root_faulty trees None bad broken = cc
root_faulty trees (Some tree) bad broken = ap (ended_by tree (steps trees 32 [] tree)) broken

pub root_sound : (trees : Trees) (root : Option (List ℕ)) (c : Counts) → judge trees (root_steps trees root) no_counts ≡ walked.Counted c → is_sound (root_ended trees root) ≡ true
root_sound trees root c counted = (root_ends trees root c counted).sound

pub never_changed : (c : Comparison) (P : Type 0) → IfChanged c ⊥ → IfChanged c P
never_changed (comparison.Broken id) P h = tt
never_changed (comparison.Changed from to paths) P h = absurd h
