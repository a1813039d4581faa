-- A target is broken exactly at the first bad object of its walk.
use Rattle.std.proofs.Common.{◌≡◌, ℕ, Bool, true, false, cond, List, [], None, refl, sym, ap, ◌∙◌, inl, inr}
use Rattle.std.specs.Prelude.{◌⊎◌, ◌↔◌, ◌≢◌}
use Rattle.std.specs.Str.{bytes_eq}
use Rattle.std.proofs.lemmas.Bool.{cases_Bool, false≢true}
use Rattle.std.proofs.lemmas.Slice.Eq.{bytes_eq-Decides}
use Rattle.git_object.specs.Ids.{zeros}
use Rattle.tree_paths.specs.Broken.{IsBrokenAt, IsUnbroken}
use Rattle.tree_paths.specs.Changes.{IsComparison}
use Rattle.tree_paths.specs.Readings.{Readings}
use Rattle.tree_paths.specs.States.{Ended, Faulty, Gone, Sound, ended, ended_by, is_sound, peeled, root_of, state_at, walk_of}
use Rattle.tree_paths.specs.Walks.{Step, judge, no_counts, steps}
use Rattle.tree_paths.specs.declared.counts.Walked.{Walked}
use Rattle.tree_paths.specs.declared.counts.Walked.TheVariants as walked
use Rattle.tree_paths.specs.declared.heads.Peeled.{Peeled}
use Rattle.tree_paths.specs.declared.heads.Peeled.TheVariants.{At, Bad, Nothing}
use Rattle.tree_paths.specs.declared.states.Comparison.TheVariants as comparison
use Rattle.tree_paths.specs.declared.states.State.TheVariants as state
use Rattle.tree_paths.proofs.BadHeads.{bad_leads, commit_leads, leads_bad, leads_commit}
use Rattle.tree_paths.proofs.BadSteps.{broken_first, first_broken, none_fits}

module _ (readings : Readings) (target : List ℕ) where
  not_zeros : (p : Peeled) → root_of readings.heads target ≡ p → (p ≡ Nothing → ⊥) → (target ≢ zeros) × (peeled readings.heads 8 None target ≡ p)
  not_zeros p is some = by_test (bytes_eq target zeros) refl is where
    by_test : (b : Bool) → bytes_eq target zeros ≡ b → cond b Nothing (peeled readings.heads 8 None target) ≡ p → (target ≢ zeros) × (peeled readings.heads 8 None target ≡ p)
    by_test true none e = absurd (some (sym e))
    by_test false none e = (λ same. false≢true (sym none ∙ (bytes_eq-Decides target zeros).1 same), e)

  at_peeled : (p : Peeled) → target ≢ zeros → peeled readings.heads 8 None target ≡ p → root_of readings.heads target ≡ p
  at_peeled p some is = elim (cases_Bool (bytes_eq target zeros)) [
    | inl same ↦ absurd (some ((bytes_eq-Decides target zeros).0 same))
    | inr other ↦ ap (λ (b : Bool). cond b Nothing (peeled readings.heads 8 None target)) other ∙ is
  ]

  broken_by : (tree : List ℕ) (ss : List Step) (w : Walked) (id : List ℕ) → ended_by tree ss w ≡ Faulty id → w ≡ walked.Broken id
  broken_by tree ss (walked.Broken b) id e = let same : b ≡ id = cc in ap walked.Broken same
  broken_by tree ss (walked.Counted c) id e = absurd (let clash : Sound tree ss c ≡ Faulty id = e in cc)

  faulty_broken : (id : List ℕ) → walk_of readings target ≡ Faulty id → IsBrokenAt readings target id
  faulty_broken id e = by_root (root_of readings.heads target) refl e where
    by_root : (p : Peeled) → root_of readings.heads target ≡ p → ended readings.trees p ≡ Faulty id → IsBrokenAt readings target id
    by_root Nothing is f = absurd (let clash : Gone ≡ Faulty id = f in cc)
    by_root (Bad b) is f =
        let same : b ≡ id = cc in
        let at = not_zeros (Bad b) is (λ g. let clash : Bad b ≡ Nothing = g in cc) in
        inl (record { some = at.0; led = bad_leads readings.heads 8 None target id (at.1 ∙ ap Bad same) })
    by_root (At commit tree) is f =
        let at = not_zeros (At commit tree) is (λ g. let clash : At commit tree ≡ Nothing = g in cc) in
        inr (record {
          some = at.0;
          commit = commit;
          tree = tree;
          led = commit_leads readings.heads 8 None target commit tree at.1;
          first = broken_first readings.trees [] (steps readings.trees 32 [] tree) no_counts id none_fits (broken_by tree (steps readings.trees 32 [] tree) (judge readings.trees (steps readings.trees 32 [] tree) no_counts) id f);
        })

  broken_faulty : (id : List ℕ) → IsBrokenAt readings target id → walk_of readings target ≡ Faulty id
  broken_faulty id is = elim is [
    | inl bad ↦ ap (ended readings.trees) (at_peeled (Bad id) bad.some (leads_bad readings.heads 8 bad.led.tags None target bad.led.last id bad.led.few bad.led.lead bad.led.is_bad))
    | inr bad ↦
        let led = bad.led in
        let first = bad.first in
        let walk = steps readings.trees 32 [] bad.tree in
        ap (ended readings.trees) (at_peeled (At bad.commit bad.tree) bad.some (leads_commit readings.heads 8 led.tags None target led.last bad.commit bad.tree led.few led.lead led.may led.is_commit))
        ∙ ap (ended_by bad.tree walk)
        (ap (λ (ss : List Step). judge readings.trees ss no_counts) first.is ∙ first_broken readings.trees [] first.before first.step first.after no_counts none_fits first.bad first.good)
        ∙ ap Faulty first.named
  ]

  state_faulty : (e : Ended) (id : List ℕ) → state_at e ≡ state.Broken id → e ≡ Faulty id
  state_faulty Gone id e = absurd (let clash : state.Absent ≡ state.Broken id = e in cc)
  state_faulty (Faulty b) id e = let same : b ≡ id = cc in ap Faulty same
  state_faulty (Sound tree ss c) id e = absurd (let clash : state.Whole tree c.paths c.dirs ≡ state.Broken id = e in cc)

  pub state_where : (id : List ℕ) → (state_at (walk_of readings target) ≡ state.Broken id) ↔ IsBrokenAt readings target id
  state_where id = (λ e. faulty_broken id (state_faulty (walk_of readings target) id e), λ is. ap state_at (broken_faulty id is))

  sound_not : (e : Ended) (id : List ℕ) → is_sound e ≡ true → e ≡ Faulty id → ⊥
  sound_not e id sound is = false≢true (sym (ap is_sound is) ∙ sound)

  not_sound : (e : Ended) → ((id : List ℕ) → e ≡ Faulty id → ⊥) → is_sound e ≡ true
  not_sound Gone none = refl
  not_sound (Faulty id) none = absurd (none id refl)
  not_sound (Sound tree ss c) none = refl

  pub sound_where : (is_sound (walk_of readings target) ≡ true) ↔ IsUnbroken readings target
  sound_where = (
    λ sound id is. sound_not (walk_of readings target) id sound (broken_faulty id is),
    λ none. not_sound (walk_of readings target) (λ id e. none id (faulty_broken id e)),
  )

pub compared_where : (readings : Readings) (from to id : List ℕ)
    → IsComparison (walk_of readings from) (walk_of readings to) (comparison.Broken id) ↔ (IsBrokenAt readings from id ⊎ (IsUnbroken readings from × IsBrokenAt readings to id))
compared_where readings from to id = (
  λ is. elim is [
    | inl first ↦ inl (faulty_broken readings from id first)
    | inr second ↦ inr ((sound_where readings from).0 second.0, faulty_broken readings to id second.1)
  ],
  λ is. elim is [
    | inl first ↦ inl (broken_faulty readings from id first)
    | inr second ↦ inr ((sound_where readings from).1 second.0, broken_faulty readings to id second.1)
  ],
)
