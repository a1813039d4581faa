-- An engine that took some entries of a log, and takes those behind them.
use Rattle.std.specs.Prelude.{◌≡◌, ◌++◌, ◌∷◌, [], ℕ, List, drop, Some, true}
use Rattle.git_object.specs.Repository.{Repository, value_of}
use Rattle.rsl_chain.specs.Entries.{Taken}
use Rattle.rsl_chain.specs.Logs.{entry_at}
use Rattle.rsl_chain.specs.declared.entries.Entry.{Entry}
use Rattle.rsl_chain.specs.declared.log_faults.LogFault.{LogFault}
use Rattle.rsl_chain.specs.declared.log_faults.LogFault.TheVariants.{Broken, Failed, Memory}
use Rattle.judging.specs.Engines.{taken}
use Rattle.judging.specs.Reads.{is_bounded}
use Rattle.judging.specs.Rules.{Rules}
use Rattle.judging.specs.Verdicts.{IsJudged}
use Rattle.judging.specs.declared.verdicts.Verdict.{Verdict}
use Rattle.policy_epochs.specs.declared.policies.Policy.{Policy}
use Rattle.entry_rules.specs.RealRules.{real_rules}
use Rattle.entry_rules.specs.declared.faults.Fault.{Fault}
use Rattle.verify_ref.specs.Following.{Follows}
use Rattle.verify_ref.specs.Logs.{AreEntries, ComesBehind}
use Rattle.verify_ref.specs.declared.engine.Engine.{Engine}
use Rattle.pushes.specs.Steps.{ids_of}
use Rattle.pushes.specs.declared.rows.Row.{Row}

-- the ids of a log's entries that the engine has not taken
abbrev pub ids_behind : List Row → Engine → List (List ℕ)
ids_behind log engine = ids_of (drop (taken engine.entries) log)

-- each of the entries comes behind the log and those before it
abbrev pub ComeBehind : List Taken → List Taken → Type 0
ComeBehind log [] = Unit {0}
ComeBehind log (t ∷ more) = ComesBehind log t.entry × ComeBehind (log ++ t ∷ []) more

-- behind these entries the one at the id was taken, which comes next, to be judged in the repository
pub record TakesAt (r : Repository) (log : List Taken) (id : List ℕ) (now : Engine) : Type 0 where
  pub entry : Entry
  pub there : entry_at r id ≡ Some entry
  pub next : ComesBehind log entry
  pub follows : Follows (log ++ record { entry = entry; repository = r } ∷ []) now

-- behind these entries those at the ids were taken, each of which came next, to be judged in the repository
pub record TakesAll (r : Repository) (log : List Taken) (ids : List (List ℕ)) (now : Engine) : Type 0 where
  pub more : List Taken
  pub entries : AreEntries r ids more
  pub next : ComeBehind log more
  pub follows : Follows (log ++ more) now

-- those of a front of the ids were taken
pub record TakesFront (r : Repository) (log : List Taken) (ids : List (List ℕ)) (now : Engine) : Type 0 where
  pub front : List (List ℕ)
  pub rest : List (List ℕ)
  pub is : ids ≡ front ++ rest
  pub taken : TakesAll r log front now

-- all were taken, and this is the verdict on the reference by all entries and by its value in the repository
pub record Judges (r : Repository) (log : List Taken) (ids : List (List ℕ)) (now : Engine) (name : List ℕ)
    (verdict : Verdict Fault) : Type 0 where
  pub taken : TakesAll r log ids now
  pub judged : IsJudged (real_rules now.rules.anchor) (log ++ taken.more) name (value_of r name) verdict

-- ---- where the entries at some ids do not go on from those taken

-- this is the first of the ids at which no entry stands that comes behind the log and those before it
pub record IsFirstAstrayBehind (r : Repository) (log : List Taken) (ids : List (List ℕ)) (id : List ℕ) : Type 0 where
  pub front : List (List ℕ)
  pub rest : List (List ℕ)
  pub is : ids ≡ front ++ id ∷ rest
  pub more : List Taken
  pub entries : AreEntries r front more
  pub next : ComeBehind log more
  pub none : (entry : Entry) → entry_at r id ≡ Some entry → ComesBehind (log ++ more) entry → ⊥

-- a break that is answered names it
abbrev pub BreaksBehind : Repository → List Taken → List (List ℕ) → LogFault → Type 0
BreaksBehind r log ids (Broken id) = IsFirstAstrayBehind r log ids id
BreaksBehind r log ids Failed = Unit {0}
BreaksBehind r log ids Memory = Unit {0}

-- ---- reads

-- the reads for what each of these records, behind the log and those before it, are bounded
abbrev pub AreBoundedBehind : Rules Policy Fault → List Taken → List Taken → Type 0
AreBoundedBehind rules log [] = Unit {0}
AreBoundedBehind rules log (t ∷ more) = (is_bounded rules log t ≡ true) × AreBoundedBehind rules (log ++ t ∷ []) more
