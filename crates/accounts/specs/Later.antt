-- What a log stands for of which the entries from a number on were judged, and the steps of judging it.
use Rattle.std.specs.Prelude.{◌≡◌, ◌<◌, ◌≤◌, ◌-◌, ℕ, List, Option, Some, length}
use Rattle.std.specs.List.{AllByRecursion, slice_get}
use Rattle.git_object.specs.Repository.{Repository}
use Rattle.rsl_chain.specs.Entries.{Taken}
use Rattle.rsl_chain.specs.Logs.{IsLogOf}
use Rattle.judging.specs.Engines.{Stands}
use Rattle.judging.specs.Logs.{attested_after, before, entry_at}
use Rattle.entry_rules.specs.RealRules.{real_rules}
use Rattle.verify_ref.specs.Logs.{AreEntries}
use Rattle.judged_logs.specs.Keeping.{Knows}
use Rattle.judged_logs.specs.LaterRules.{AreNumbered, rules_from}
use Rattle.account_lines.specs.declared.rows.EntryRow.{EntryRow}
use Rattle.accounts.specs.Judging.{IsOwn}
use Rattle.accounts.specs.Rows.{epoch_of, row_of}
use Rattle.accounts.specs.declared.later_engine.LaterEngine.{LaterEngine}
use Rattle.accounts.specs.declared.later_log.LaterLog.{LaterLog}

-- the engine took these entries, each that is judged to be so in the repository beside it
abbrev pub FollowsFrom : List Taken → LaterEngine → Type 0
FollowsFrom log engine = Stands (rules_from engine.first (real_rules engine.rules.anchor)) log engine.entries

-- of each entry from a number on this is known, as where all are judged
abbrev pub AreRowsFrom : ℕ → Option (List (List ℕ)) → List Taken → List EntryRow → Type 0
AreRowsFrom first anchor log rows = (number : ℕ) (row : EntryRow) → 0 < number → first ≤ number
    → slice_get rows (number - 1) ≡ Some row
    → (t : Taken) × (entry_at log number ≡ Some t) × (row ≡ row_of anchor (before log number) t)

-- it stands for these entries
pub record StandsFrom (log : List Taken) (judged : LaterLog) : Type 0 where
  pub follows : FollowsFrom log judged.engine
  pub numbered : AreNumbered log
  pub epoch : judged.epoch ≡ epoch_of (real_rules judged.engine.rules.anchor) log
  pub attested : judged.attested ≡ attested_after log
  pub long : length judged.rows ≡ length log
  pub rows : AreRowsFrom judged.engine.first judged.engine.rules.anchor log judged.rows
  pub later : Knows (rules_from judged.engine.first (real_rules judged.engine.rules.anchor)) log judged.later

-- the repository's entries from a number on were judged in the repository, under the first policy of these keys
pub record IsJudgedFrom (anchor : Option (List (List ℕ))) (r : Repository) (first : ℕ) (judged : LaterLog)
    : Type 0 where
  pub ids : List (List ℕ)
  pub is_log : IsLogOf r ids
  pub log : List Taken
  pub entries : AreEntries r ids log
  pub own : AllByRecursion (IsOwn r) log
  pub stands : StandsFrom log judged
  pub anchored : judged.engine.rules.anchor ≡ anchor
  pub begun : judged.engine.first ≡ first
