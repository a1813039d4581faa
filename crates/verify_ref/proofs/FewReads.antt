-- What an entry is worth in reads, by the trees of the two states.
use Rattle.std.proofs.Common.{◌≡◌, ◌≤◌, ◌+◌, ◌*◌, ◌∙◌, ℕ, Bool, true, false, cond, List, [], ◌∷◌, Option, Some, None, ap, refl, sym, arith}
use Rattle.std.specs.Prelude.{if◌then◌else◌}
use Rattle.std.specs.List.{list_any}
use Rattle.std.specs.Str.{bytes_eq}
use Rattle.std.proofs.lemmas.Bool.{and_parts}
use Rattle.git_object.specs.Repository.{Repository}
use Rattle.rsl_chain.specs.Entries.{Taken, target_of}
use Rattle.git_object.specs.References.{policy_name}
use Rattle.rsl_chain.specs.declared.entries.EntryBody.TheVariants.{Reference}
use Rattle.tree_paths.specs.Changes.{own, shared_reads}
use Rattle.tree_paths.specs.Listings.{visits, visits_below, walk_visits}
use Rattle.tree_paths.specs.Pairings.{same_visit, visits_in}
use Rattle.tree_paths.specs.Readings.{Readings, Trees}
use Rattle.tree_paths.specs.Repositories.{readings_of}
use Rattle.tree_paths.specs.States.{dirs_at, ended, ended_by, is_sound, root_of, state_at, steps_in, walk_of}
use Rattle.tree_paths.specs.Walks.{Step, judge, no_counts, steps}
use Rattle.tree_paths.specs.declared.counts.Walked.{Walked}
use Rattle.tree_paths.specs.declared.counts.Walked.TheVariants.{Broken, Counted}
use Rattle.tree_paths.specs.declared.heads.Peeled.{Peeled}
use Rattle.tree_paths.specs.declared.heads.Peeled.TheVariants.{At, Bad, Nothing}
use Rattle.tree_paths.specs.declared.states.State.{State}
use Rattle.tree_paths.specs.declared.states.State.TheVariants as state
use Rattle.tree_paths.proofs.Pieces.{counted_dirs}
use Rattle.judging.specs.Decisions.{decision_reads}
use Rattle.judging.specs.Logs.{attested_after, from, policy_after}
use Rattle.judging.specs.Reads.{body_bounded, body_reads, is_bounded, may_rescue}
use Rattle.judging.specs.Rules.{Rules}
use Rattle.policy_epochs.specs.declared.policies.Policy.{Policy}
use Rattle.policy_reading.specs.Policies.{file_reads, policy_reads}
use Rattle.entry_rules.specs.RealRules.{approval_reads, comparison_reads, real_rules}
use Rattle.entry_rules.specs.declared.faults.Fault.{Fault}
use Rattle.verify_ref.specs.Reading.{both_dirs, dirs_of, extending_reads, learning_reads, policy_files_of, rule_files_in}

-- ---- the trees of a state that is not broken
module _ (trees : Trees) (root : List ℕ) where
  both_counts : (w : Walked) → judge trees (steps trees 32 [] root) no_counts ≡ w → is_sound (ended_by root (steps trees 32 [] root) w) ≡ true
      → (visits (steps trees 32 [] root) ≡ dirs_at (ended_by root (steps trees 32 [] root) w)) × (visits (steps_in (ended_by root (steps trees 32 [] root) w)) ≡ dirs_at (ended_by root (steps trees 32 [] root) w))
  both_counts (Broken id) is sound = absurd (cc sound)
  both_counts (Counted c) is sound =
      let all = counted_dirs trees (steps trees 32 [] root) no_counts c is in
      let same : visits (steps trees 32 [] root) ≡ c.dirs = omega (arith, all) in
      (same, same)

by_end : (trees : Trees) (end : Peeled) → is_sound (ended trees end) ≡ true
    → (visits_below trees end ≡ dirs_at (ended trees end)) × (visits (steps_in (ended trees end)) ≡ dirs_at (ended trees end))
by_end trees Nothing sound = (refl, refl)
by_end trees (Bad id) sound = absurd (cc sound)
by_end trees (At commit root) sound = both_counts trees root (judge trees (steps trees 32 [] root) no_counts) refl sound

own_few : (xs ys : List Step) → own xs ys ≤ visits xs
own_few [] ys = omega arith
own_few (x ∷ xs) ys = by_test (own_few xs ys) (list_any (same_visit x) ys) where
  by_test : own xs ys ≤ visits xs → (b : Bool) → cond b 0 (visits_in x) + own xs ys ≤ visits_in x + visits xs
  by_test rest true = omega (arith, rest)
  by_test rest false = omega (arith, rest)

-- what comparing two of them is worth
shared_few : (readings : Readings) (a b : List ℕ) → is_sound (walk_of readings a) ≡ true → shared_reads (walk_of readings a) (walk_of readings b) ≤ dirs_at (walk_of readings a) + dirs_at (walk_of readings b)
shared_few readings a b sound =
    let all = by_end readings.trees (root_of readings.heads a) sound in
    omega (arith, all.1, own_few (steps_in (walk_of readings a)) (steps_in (walk_of readings b)))

files_few : (readings : Readings) (s : State) → file_reads readings s ≤ 3 + rule_files_in readings s
files_few readings state.Absent = omega arith
files_few readings (state.Broken id) = omega arith
files_few readings (state.Whole tree paths dirs) = omega arith

-- what the policy of one is worth
policy_few : (r : Repository) (target : List ℕ) → is_sound (walk_of (readings_of r) target) ≡ true → policy_reads r target ≤ 12 + dirs_of r target + rule_files_in (readings_of r) (state_at (walk_of (readings_of r) target))
unfolding policy_reads
policy_few r target sound =
    let all = by_end (readings_of r).trees (root_of (readings_of r).heads target) sound in
    omega (arith, all.0, files_few (readings_of r) (state_at (walk_of (readings_of r) target)))

approvals_few : (attested : Option (List ℕ)) → approval_reads attested ≤ 28
approvals_few None = omega arith
approvals_few (Some a) = omega arith

-- ---- an entry
-- of deciding one that is not for the policy
abbrev or_none : Option Policy → ℕ → ℕ
or_none None n = 0
or_none (Some policy) n = n

sum_few : (rescues for_policy : Bool) (policy : Option Policy) (visited compared brought approved s d files : ℕ) → visited ≡ s → compared ≤ 18 + (s + d) → brought ≤ 12 + d + files → approved ≤ 28
    → (if rescues then 0 else 9 + visited) + ((if for_policy then brought else or_none policy (compared + approved)) + (if rescues then compared else 0)) ≤ 64 + 2 * (s + d) + (if for_policy then files else 0)
sum_few true true policy visited compared brought approved s d files v c b a = omega (arith, v, c, b, a)
sum_few true false None visited compared brought approved s d files v c b a = omega (arith, v, c, b, a)
sum_few true false (Some policy) visited compared brought approved s d files v c b a = omega (arith, v, c, b, a)
sum_few false true policy visited compared brought approved s d files v c b a = omega (arith, v, c, b, a)
sum_few false false None visited compared brought approved s d files v c b a = omega (arith, v, c, b, a)
sum_few false false (Some policy) visited compared brought approved s d files v c b a = omega (arith, v, c, b, a)

module _ (anchor : Option (List (List ℕ))) (log : List Taken) (t : Taken) (name target : List ℕ) (body : t.entry.body ≡ Reference name target) where
  abbrev rules : Rules Policy Fault
  rules = real_rules anchor

  abbrev readings : Readings
  readings = readings_of t.repository

  abbrev stood : List ℕ
  stood = from rules log name

  -- the reads of an entry of a reference, part by part
  abbrev learning : ℕ
  learning = (if may_rescue rules log name then 0 else 9 + walk_visits readings stood)

  abbrev rescuing : ℕ
  rescuing = (if may_rescue rules log name then comparison_reads readings stood target else 0)

  parts : extending_reads rules log t
      ≡ learning + ((if bytes_eq name policy_name then policy_reads t.repository target else or_none (policy_after rules log) (comparison_reads readings stood target + approval_reads (attested_after log))) + rescuing)
  parts = (λ i. learning_reads rules t.repository log (body i) + body_reads rules log t (body i)) ∙ by_policy (policy_after rules log)
    where
      to : target_of t.entry.body ≡ target
      to = ap target_of body

      by_policy : (o : Option Policy)
          → learning + (decision_reads rules t.repository o t.entry name stood (attested_after log) + rescuing)
          ≡ learning + ((if bytes_eq name policy_name then policy_reads t.repository target else or_none o (comparison_reads readings stood target + approval_reads (attested_after log))) + rescuing)
      by_policy None = ap (λ (x : List ℕ). learning + ((if bytes_eq name policy_name then policy_reads t.repository x else 0) + rescuing)) to
      by_policy (Some p) =
          ap (λ (x : List ℕ). learning + ((if bytes_eq name policy_name then policy_reads t.repository x else comparison_reads readings stood x + approval_reads (attested_after log)) + rescuing)) to

  pub few : is_bounded rules log t ≡ true → extending_reads rules log t ≤ 64 + 2 * both_dirs rules log t name target + policy_files_of t.repository name target
  few bounded =
      let sound = and_parts (is_sound (walk_of readings stood)) (is_sound (walk_of readings target)) (sym (ap (body_bounded rules log t) body) ∙ bounded) in
      let visited = by_end readings.trees (root_of readings.heads stood) sound.0 in
      let total = sum_few (may_rescue rules log name) (bytes_eq name policy_name) (policy_after rules log) (walk_visits readings stood) (comparison_reads readings stood target) (policy_reads t.repository target)
      (approval_reads (attested_after log)) (dirs_of t.repository stood) (dirs_of t.repository target) (rule_files_in readings (state_at (walk_of readings target)))
      visited.0 (let few = shared_few readings stood target sound.0 in omega (arith, few)) (policy_few t.repository target sound.1) (approvals_few (attested_after log)) in
      omega (arith, parts, total)
