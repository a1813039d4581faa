-- What a log stands for that is judged by global rules, and the steps of judging it.
use Rattle.std.specs.Prelude.{◌≡◌, ◌++◌, ◌∷◌, [], ℕ, List, Option, Some}
use Rattle.git_object.specs.Repository.{Repository}
use Rattle.rsl_chain.specs.Entries.{Taken}
use Rattle.rsl_chain.specs.declared.entries.Entry.{Entry}
use Rattle.rsl_chain.specs.Logs.{IsLogOf, entry_at}
use Rattle.entry_rules.specs.RealRules.{real_rules}
use Rattle.verify_ref.specs.Following.{Follows}
use Rattle.verify_ref.specs.Logs.{AreEntries}
use Rattle.global_verdicts.specs.InForce.{found_after}
use Rattle.global_verdicts.specs.Rows.{AreRows}
use Rattle.global_verdicts.specs.declared.pass.Pass.{Pass}

-- it stands for these entries, each judged in the repository beside it
pub record StandsFor (log : List Taken) (pass : Pass) : Type 0 where
  pub follows : Follows log pass.engine
  pub found : pass.file ≡ found_after (real_rules pass.engine.rules.anchor) log
  pub rows : AreRows (real_rules pass.engine.rules.anchor) pass.name [] log pass.rows

-- the entry at the id is judged, as the next
pub record JudgesNext (r : Repository) (id : List ℕ) (was now : Pass) : Type 0 where
  pub entry : Entry
  pub there : entry_at r id ≡ Some entry
  pub stands : (log : List Taken) → StandsFor log was
      → StandsFor (log ++ record { entry = entry; repository = r } ∷ []) now

-- the repository's log was judged in the repository on this reference, under the first policy of these keys
pub record IsJudgedLog (r : Repository) (name : List ℕ) (anchor : Option (List (List ℕ))) (pass : Pass) : Type 0 where
  pub ids : List (List ℕ)
  pub is_log : IsLogOf r ids
  pub log : List Taken
  pub entries : AreEntries r ids log
  pub stands : StandsFor log pass
  pub named : pass.name ≡ name
  pub anchored : pass.engine.rules.anchor ≡ anchor
