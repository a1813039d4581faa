-- A state that was just loaded.
use Rattle.std.proofs.Common.{◌≡◌, ◌∷◌, [], ℕ, List, map, Option, Some, None, refl, sym, ap, subst}
use Rattle.git_object.specs.Repository.{Repository}
use Rattle.rsl_chain.specs.Entries.{Taken}
use Rattle.rsl_chain.specs.Logs.{IsBrokenAs, IsLogOf}
use Rattle.rsl_chain.specs.declared.log_faults.LogFault.{LogFault}
use Rattle.rsl_chain.specs.declared.log_faults.LogFault.TheVariants.{Broken, Failed, Memory}
use Rattle.verify_ref.specs.Logs.{AreEntries}
use Rattle.verify_ref.specs.declared.engine.Engine.{Engine}
use Rattle.pushes.specs.Steps.{by_nobody, ids_of}
use Rattle.pushes.specs.declared.rows.Row.{Row}
use Rattle.desk_turns.specs.States as desks
use Rattle.desk_core.specs.Lagging.{BreaksBehind, TakesAll}
use Rattle.desk_core.proofs.Astray.{ids_are, none_in_log}
use Rattle.desk_core.specs.States.{IsAt, Judges}

their_ids : (ids : List (List ℕ)) → ids_of (map by_nobody ids) ≡ ids
their_ids [] = refl
their_ids (id ∷ ids) = ap (λ (rest : List (List ℕ)). id ∷ rest) (their_ids ids)

module _ (content : Option Repository) (desk : desks.Desk) (loaded : desks.IsLoaded content desk) (r : Repository) (told : content ≡ Some r) where
  rows_log : IsLogOf r (ids_of desk.log)
  rows_log = subst (λ (d : desks.Desk). IsLogOf r (ids_of d.log)) (sym loaded.is) (subst (λ (ids : List (List ℕ)). IsLogOf r ids) (sym (their_ids loaded.ids)) (loaded.log r told))

  -- the ids of a log that was read are not broken
  pub unbroken : (fault : LogFault) → BreaksBehind r [] (ids_of desk.log) fault → IsBrokenAs r fault
  unbroken (Broken id) breaks = absurd (none_in_log r [] (ids_of desk.log) id rows_log breaks)
  unbroken Failed breaks = tt
  unbroken Memory breaks = tt

  pub loaded_judges : (engine : Engine) → engine.rules.anchor ≡ None → TakesAll r [] (ids_of desk.log) engine
      → (log : List Taken) × AreEntries r (ids_of desk.log) log × Judges r log (record { log = desk; engine = engine; waiting = None })
  loaded_judges engine anchor all = (
    all.more,
    all.entries,
    record {
      rows = ids_are r (ids_of desk.log) all.more all.entries;
      anchor = anchor;
      at = subst (λ (doubt : Option (List ℕ)). IsAt r all.more engine None doubt) (ap (λ (d : desks.Desk). d.doubt) (sym loaded.is)) all.follows;
    },
  )

-- a state whose log was loaded before what it judges was read
module _ (was now : Option Repository) (stays : (r : Repository) → now ≡ Some r → was ≡ Some r) (desk : desks.Desk) (loaded : desks.IsLoaded was desk) where
  pub loaded_on : desks.IsLoaded now desk
  loaded_on = record { ids = loaded.ids; is = loaded.is; log = λ r told. loaded.log r (stays r told) }

  module _ (rows : List Row) (rows_are : rows ≡ desk.log) where
    pub judges_on : (engine : Engine) → engine.rules.anchor ≡ None → (r : Repository) → now ≡ Some r → TakesAll r [] (ids_of rows) engine
        → (log : List Taken) × AreEntries r (ids_of desk.log) log × Judges r log (record { log = desk; engine = engine; waiting = None })
    judges_on engine anchor r told all = loaded_judges was desk loaded r (stays r told) engine anchor (subst (λ (these : List Row). TakesAll r [] (ids_of these) engine) rows_are all)

    pub unbroken_on : (fault : LogFault) → (r : Repository) → now ≡ Some r → BreaksBehind r [] (ids_of rows) fault → IsBrokenAs r fault
    unbroken_on fault r told breaks = unbroken was desk loaded r (stays r told) fault (subst (λ (these : List Row). BreaksBehind r [] (ids_of these) fault) rows_are breaks)
