-- Whether a push's entry would be a violation, by what the engine took.
use Rattle.std.proofs.Common.{◌≡◌, ◌<◌, ◌+◌, ◌-◌, ◌||◌, ℕ, zero, suc, Bool, true, false, not, cond, List, [], ◌∷◌, length, map, slice_get, Option, Some, None, refl, sym, ap, ◌∙◌, arith}
use Rattle.std.specs.Prelude.{IfNone, IfSome, is_some}
use Rattle.std.specs.List.{filter, list_any}
use Rattle.std.specs.Str.{bytes_eq}
use Rattle.std.proofs.lemmas.Bool.{true≢false}
use Rattle.git_object.specs.Objects.{Pair, pair_id}
use Rattle.git_object.specs.Repository.{Repository}
use Rattle.keeper_api.specs.Changes.{changed}
use Rattle.rsl_chain.specs.Entries.{Taken}
use Rattle.rsl_chain.specs.declared.entries.EntryBody.{EntryBody}
use Rattle.rsl_chain.specs.declared.entries.EntryBody.TheVariants.{Reference, Annotation}
use Rattle.judging.specs.Books.{place_of}
use Rattle.judging.specs.Engines.{has_taken}
use Rattle.judging.specs.Logs as logs
use Rattle.judging.specs.Verdicts.{body_verdict, verdict_of}
use Rattle.judging.specs.declared.verdicts.EntryVerdict.{EntryVerdict}
use Rattle.judging.specs.declared.verdicts.EntryVerdict.TheVariants.{Authorised, Noted, Refused}
use Rattle.entry_rules.specs.RealRules.{real_rules}
use Rattle.entry_rules.specs.declared.faults.Fault.{Fault}
use Rattle.verify_ref.specs.Following.{Follows}
use Rattle.verify_ref.specs.declared.engine.Engine.{Engine}
use Rattle.pushes.specs.declared.pushed.Push.{Push}
use Rattle.pushes.specs.Steps.{change_of, has_row, ids_of, row_id}
use Rattle.pushes.specs.declared.rows.Row.{Row}
use Rattle.desk_core.specs.Laws.{taken_id}
use Rattle.desk_core.specs.Adding.{IsAllowed, change_beside, line_by, line_of, verdict_on}
use Rattle.desk_core.specs.States.{HasFault}

-- ---- the ids that were taken are those of the rows

abbrev in_ids : List (List ℕ) → List ℕ → Bool
in_ids ids id = list_any (λ x. bytes_eq x id) ids

in_rows : (rows : List Row) (id : List ℕ) → has_row rows id ≡ in_ids (ids_of rows) id
in_rows [] id = refl
in_rows (row ∷ rows) id = ap (λ (b : Bool). bytes_eq (row_id row) id || b) (in_rows rows id)

or_last : (b : Bool) → (b || true) ≡ true
or_last true = refl
or_last false = refl

-- what stands at a place has its id among all
at_place : (log : List Taken) (n : ℕ) (id : List ℕ) → logs.has_id (slice_get log n) id ≡ true → in_ids (map taken_id log) id ≡ true
at_place [] n id has = has
at_place (t ∷ log) zero id has = ap (λ (b : Bool). b || in_ids (map taken_id log) id) has
at_place (t ∷ log) (suc n) id has = ap (λ (b : Bool). bytes_eq t.entry.id id || b) (at_place log n id has) ∙ or_last (bytes_eq t.entry.id id)

-- and each id among all stands at a place
some_place : (log : List Taken) (id : List ℕ) → in_ids (map taken_id log) id ≡ true → (n : ℕ) × (n < length log) × (logs.has_id (slice_get log n) id ≡ true)
some_place [] id has = absurd (true≢false (sym has))
some_place (t ∷ log) id has = by_test (bytes_eq t.entry.id id) refl has (λ later. some_place log id later)
  where
    by_test : (b : Bool) → bytes_eq t.entry.id id ≡ b → (b || in_ids (map taken_id log) id) ≡ true → (in_ids (map taken_id log) id ≡ true → (n : ℕ) × (n < length log) × (logs.has_id (slice_get log n) id ≡ true))
        → (n : ℕ) × (n < length (t ∷ log)) × (logs.has_id (slice_get (t ∷ log) n) id ≡ true)
    by_test true is has rest = (zero, omega arith, is)
    by_test false is has rest = let found = rest has in (suc found.0, (let below = found.1 in omega (arith, below)), found.2)

module _ (engine : Engine) (log : List Taken) (follows : Follows log engine) where
  taken_in : (id : List ℕ) → has_taken engine.entries id ≡ in_ids (map taken_id log) id
  taken_in id = by_place (place_of engine.entries.book id) refl
    where
      never : (b : Bool) → in_ids (map taken_id log) id ≡ b → place_of engine.entries.book id ≡ None → false ≡ in_ids (map taken_id log) id
      never false is none = sym is
      never true is none =
          let at = some_place log id is in
          let n = at.0 in
          let below = at.1 in
          let here : logs.has_id (logs.entry_at log (n + 1)) id ≡ true = (let back : n + 1 - 1 ≡ n = omega arith in ap (λ (m : ℕ). logs.has_id (slice_get log m) id) back ∙ at.2) in
          let there : place_of engine.entries.book id ≡ Some (n + 1) = (follows.places id (n + 1)).1 (omega arith, omega (arith, below), here) in
          let both : None ≡ Some (n + 1) = sym none ∙ there in absurd (cc both)

      by_place : (o : Option ℕ) → place_of engine.entries.book id ≡ o → has_taken engine.entries id ≡ in_ids (map taken_id log) id
      by_place None is = ap is_some is ∙ never (in_ids (map taken_id log) id) refl is
      by_place (Some i) is = (let w = (follows.places id i).0 is in ap is_some is ∙ sym (at_place log (i - 1) id w.2))

  module _ (rows : List Row) (ids : map taken_id log ≡ ids_of rows) where
    taken_rows : (id : List ℕ) → has_taken engine.entries id ≡ has_row rows id
    taken_rows id = taken_in id ∙ ap (λ (xs : List (List ℕ)). in_ids xs id) ids ∙ sym (in_rows rows id)

    same_new : (pairs : List Pair) → filter (λ (pair : Pair). not (has_taken engine.entries (pair_id pair))) pairs ≡ filter (λ (pair : Pair). not (has_row rows (pair_id pair))) pairs
    same_new [] = refl
    same_new (p ∷ pairs) = let rest = same_new pairs in let one = taken_rows (pair_id p) in λ i. cond (not (one i)) (p ∷ rest i) (rest i)

    pub change_same : (push : Push) → change_beside (has_taken engine.entries) push ≡ change_of rows push
    change_same push = let new = same_new push.objects in λ i. record { objects = new i; refs = (change_of rows push).refs }

    -- what was answered is the answer behind the log
    pub verdict_here : (r : Repository) (push : Push) (verdict : EntryVerdict Fault) → engine.rules.anchor ≡ None
        → verdict ≡ verdict_of (real_rules engine.rules.anchor) log (record { entry = push.entry; repository = changed (change_beside (has_taken engine.entries) push) r })
        → verdict ≡ verdict_on log rows r push
    verdict_here r push verdict anchor is =
        let same = change_same push in is ∙ (λ i. verdict_of (real_rules (anchor i)) log (record { entry = push.entry; repository = changed (same i) r }))

-- and so behind a log that an engine follows which judges by no anchor
pub told_verdict : (was now : Engine) (log : List Taken) (rows : List Row) (r : Repository) (push : Push) (verdict : EntryVerdict Fault) → now.rules ≡ was.rules → was.rules.anchor ≡ None → map taken_id log ≡ ids_of rows → Follows log now
    → verdict ≡ verdict_of (real_rules now.rules.anchor) log (record { entry = push.entry; repository = changed (change_beside (has_taken now.entries) push) r }) → verdict ≡ verdict_on log rows r push
told_verdict was now log rows r push verdict same anchor ids follows is = verdict_here now log follows rows ids r push verdict (ap (λ x. x.anchor) same ∙ anchor) is

-- ---- what is told of it

module _ (log : List Taken) (rows : List Row) (r : Repository) (push : Push) where
  pub fault_found : (fault : Fault) (line : Option (List ℕ)) → line ≡ line_of push.entry fault → Refused fault ≡ verdict_on log rows r push → IfSome line (HasFault log rows r push)
  fault_found fault None is answer = tt
  fault_found fault (Some line) is answer = record { fault = fault; refused = sym answer; line_is = sym is }

  -- a fault without a line is that of an annotation, which has none
  note_allowed : (x : Option Fault) (body : EntryBody) (number : ℕ) (fault : Fault) → line_by body number fault ≡ None → (other : Fault) → body_verdict x body ≡ Refused other → ⊥
  note_allowed x (Reference name target) number fault none other is = cc none
  note_allowed x (Annotation ids skip message) number fault none other is = cc is

  pub none_found : (fault : Fault) (line : Option (List ℕ)) → line ≡ line_of push.entry fault → IfNone line (IsAllowed log rows r push)
  none_found fault None is = λ other refused. note_allowed _ push.entry.body push.entry.number fault (sym is) other refused
  none_found fault (Some line) is = tt

  pub authorised_allowed : Authorised ≡ verdict_on log rows r push → IsAllowed log rows r push
  authorised_allowed is = λ fault refused. (let both : Authorised ≡ Refused fault = is ∙ refused in cc both)

  pub noted_allowed : Noted ≡ verdict_on log rows r push → IsAllowed log rows r push
  noted_allowed is = λ fault refused. (let both : Noted ≡ Refused fault = is ∙ refused in cc both)
