-- What an engine followed: the entries that it took, under the rules of its anchor.
use Rattle.std.specs.Prelude.{◌≡◌, ◌++◌, ◌∷◌, [], List}
use Rattle.rsl_chain.specs.Entries.{Taken}
use Rattle.judging.specs.Engines.{Stands}
use Rattle.judging.specs.Verdicts.{verdict_of}
use Rattle.judging.specs.declared.verdicts.EntryVerdict.{EntryVerdict}
use Rattle.entry_rules.specs.RealRules.{real_rules}
use Rattle.entry_rules.specs.declared.faults.Fault.{Fault}
use Rattle.verify_ref.specs.declared.engine.Engine.{Engine}

-- it took these entries, each to be judged in the repository beside it
abbrev pub Follows : List Taken → Engine → Type 0
Follows log engine = Stands (real_rules engine.rules.anchor) log engine.entries

-- it took one entry more, and this is answered of it
pub record TakesOne (log : List Taken) (t : Taken) (now : Engine) (verdict : EntryVerdict Fault) : Type 0 where
  pub follows : Follows (log ++ t ∷ []) now
  pub answer : verdict ≡ verdict_of (real_rules now.rules.anchor) log t
