-- What a log stands for that was judged, and the steps of judging it.
use Rattle.std.specs.Prelude.{◌≡◌, ◌++◌, ◌∷◌, [], ℕ, List, Option, Some}
use Rattle.std.specs.List.{AllByRecursion}
use Rattle.git_object.specs.Repository.{Repository}
use Rattle.rsl_chain.specs.Entries.{Taken}
use Rattle.rsl_chain.specs.declared.entries.Entry.{Entry}
use Rattle.rsl_chain.specs.Logs.{IsLogOf, entry_at}
use Rattle.entry_rules.specs.RealRules.{real_rules}
use Rattle.judging.specs.Logs.{attested_after}
use Rattle.verify_ref.specs.Following.{Follows}
use Rattle.verify_ref.specs.Logs.{AreEntries}
use Rattle.policy_changes.specs.Names.{names_of}
use Rattle.judged_logs.specs.Keeping.{Knows}
use Rattle.accounts.specs.Rows.{epoch_of, rows_of}
use Rattle.accounts.specs.declared.judged_log.JudgedLog.{JudgedLog}

-- it stands for these entries, each judged in the repository beside it
pub record StandsFor (log : List Taken) (judged : JudgedLog) : Type 0 where
  pub follows : Follows log judged.engine
  pub epoch : judged.epoch ≡ epoch_of (real_rules judged.engine.rules.anchor) log
  pub attested : judged.attested ≡ attested_after log
  pub names : judged.names ≡ names_of log
  pub rows : judged.rows ≡ rows_of judged.engine.rules.anchor log
  pub later : Knows (real_rules judged.engine.rules.anchor) log judged.later

-- the entry at the id is taken, as the next: what stood for some entries stands for them and it
pub record JudgesNext (r : Repository) (id : List ℕ) (was now : List Taken → Type 0) : Type 0 where
  pub entry : Entry
  pub there : entry_at r id ≡ Some entry
  pub own : entry.id ≡ id
  pub stands : (log : List Taken) → was log → now (log ++ record { entry = entry; repository = r } ∷ [])

-- the entry stands at its id
abbrev pub IsOwn : Repository → Taken → Type 0
IsOwn r t = entry_at r t.entry.id ≡ Some t.entry

-- the repository's log was judged in the repository, under the first policy of these keys
pub record IsJudgedLog (anchor : Option (List (List ℕ))) (r : Repository) (judged : JudgedLog) : Type 0 where
  pub ids : List (List ℕ)
  pub is_log : IsLogOf r ids
  pub log : List Taken
  pub entries : AreEntries r ids log
  pub own : AllByRecursion (IsOwn r) log
  pub stands : StandsFor log judged
  pub anchored : judged.engine.rules.anchor ≡ anchor
