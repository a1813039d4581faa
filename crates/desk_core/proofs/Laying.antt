-- A push's change laid over a store, and what is known of trees there.
use Rattle.std.proofs.Common.{◌≡◌, ℕ, Bool, true, false, not, cond, List, [], ◌∷◌, Option, Some, None, refl, sym, ap, subst, ◌∙◌}
use Rattle.std.specs.List.{filter}
use Rattle.git_object.specs.Objects.{Pair, pair_id}
use Rattle.git_object.specs.Repository.{Repository}
use Rattle.keeper_api.specs.Changes.{changed}
use Rattle.keeper_api.specs.Growing.{NoneClashes}
use Rattle.keeper_api.specs.declared.changes.Change.{Change}
use Rattle.keeper_api.proofs.Growing.{grows}
use Rattle.keeper_api.specs.Undisturbed.{Undisturbed}
use Rattle.keeper_api.specs.declared.keepers.Keeper as keeper
use Rattle.keeper_layers.specs.Overlaying.{over}
use Rattle.entry_rules.specs.Learning.{AreKnownIn}
use Rattle.entry_rules.specs.declared.learned.Learned.{Learned}
use Rattle.entry_rules.proofs.LearnedLarger.{learned_same}
use Rattle.rsl_chain.specs.Entries.{Taken}
use Rattle.rsl_chain.specs.declared.entries.Entry.{Entry}
use Rattle.judging.specs.Engines.{has_taken}
use Rattle.judging.specs.Verdicts.{verdict_of}
use Rattle.judging.specs.declared.engine.Engine.{Engine as LogEngine}
use Rattle.judging.specs.declared.verdicts.EntryVerdict.{EntryVerdict}
use Rattle.policy_epochs.specs.declared.policies.Policy.{Policy}
use Rattle.entry_rules.specs.RealRules.{real_rules}
use Rattle.entry_rules.specs.declared.faults.Fault.{Fault}
use Rattle.verify_ref.specs.declared.engine.Engine.{Engine}
use Rattle.pushes.specs.declared.pushed.Push.{Push}
use Rattle.desk_core.specs.Adding.{change_beside}

-- what is told over a change is what it makes of what the store tells
pub known_over : (change : Change) (known : Learned) (content : Option Repository) → ((r : Repository) → content ≡ Some r → AreKnownIn (changed change r) known) → (r : Repository) → over change content ≡ Some r → AreKnownIn r known
known_over change known None all r told = absurd (cc told)
known_over change known (Some w) all r told = let same : changed change w ≡ r = cc told in subst (λ (x : Repository). AreKnownIn x known) same (all w refl)

pub over_some : (change : Change) (content : Option Repository) (r : Repository) → content ≡ Some r → over change content ≡ Some (changed change r)
over_some change content r told = ap (over change) told

-- of objects that clash nowhere, some clash nowhere
pub some_clash : (r : Repository) (t : Pair → Bool) (pairs : List Pair) → NoneClashes pairs r → NoneClashes (filter t pairs) r
some_clash r t [] all = tt
some_clash r t (p ∷ pairs) all = by_test (t p) (some_clash r t pairs all.1)
  where
    by_test : (b : Bool) → NoneClashes (filter t pairs) r → NoneClashes (cond b (p ∷ filter t pairs) (filter t pairs)) r
    by_test true more = (all.0, more)
    by_test false more = more

pub known_grown : (r : Repository) (known : Learned) (t : Pair → Bool) (pairs : List Pair) (change : Change) → NoneClashes pairs r → change.objects ≡ filter t pairs → AreKnownIn r known → AreKnownIn (changed change r) known
known_grown r known t pairs change none is all =
    learned_same r (changed change r) known (grows change r (subst (λ (ps : List Pair). NoneClashes ps r) (sym is) (some_clash r t pairs none))) all

-- the objects of a push's change, by what the push lends
pub objects_of : (has : List ℕ → Bool) (push : Push) (objects : List Pair) (change : Change) → objects ≡ push.objects → change ≡ change_beside has push → change.objects ≡ filter (λ pair. not (has (pair_id pair))) objects
objects_of has push objects change same is = ap (λ (x : Change). x.objects) is ∙ ap (λ (pairs : List Pair). filter (λ pair. not (has (pair_id pair))) pairs) (sym same)

-- what is answered of it, by what the engine lends
pub answered_beside : (log : List Taken) (engine : Engine) (entries : LogEngine Policy Fault) (push : Push) (change : Change) (r : Repository) (verdict : EntryVerdict Fault) → entries ≡ engine.entries → change ≡ change_beside (has_taken entries) push
    → verdict ≡ verdict_of (real_rules engine.rules.anchor) log (record { entry = push.entry; repository = changed change r })
    → verdict ≡ verdict_of (real_rules engine.rules.anchor) log (record { entry = push.entry; repository = changed (change_beside (has_taken engine.entries) push) r })
answered_beside log engine entries push change r verdict same is answer =
    let made : change ≡ change_beside (has_taken engine.entries) push = is ∙ ap (λ (x : LogEngine Policy Fault). change_beside (has_taken x) push) same in
    answer ∙ (λ i. verdict_of (real_rules engine.rules.anchor) log (record { entry = push.entry; repository = changed (made i) r }))

-- a store of which nothing was asked
pub still : {R : Type 0} (k : keeper.Ghosts R) (store : R) → Undisturbed k store store
still k store = record { content = λ r told. told; tells = λ told. told; left = λ told r has. has; comes = λ first came. came }

-- what is answered where a change is laid over a store
pub looked : (change same : Change) (content : Option Repository) (anchor : Option (List (List ℕ))) (log : List Taken) (entry : Entry) (verdict : EntryVerdict Fault) → same ≡ change
    → ((r : Repository) → over same content ≡ Some r → verdict ≡ verdict_of (real_rules anchor) log (record { entry = entry; repository = r })) → (r : Repository) → content ≡ Some r
    → verdict ≡ verdict_of (real_rules anchor) log (record { entry = entry; repository = changed change r })
looked change same content anchor log entry verdict is answer r told =
    answer (changed change r) (ap (λ (x : Change). over x content) is ∙ over_some change content r told)
