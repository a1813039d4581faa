-- The entries of a repository's log, each to be judged in that repository.
use Rattle.std.specs.Prelude.{◌≡◌, ◌≢◌, ◌+◌, ◌++◌, ◌∷◌, ◌==◌, ◌&&◌, [], ℕ, Bool, false, not, List, length, Option, Some}
use Rattle.std.specs.Prelude.{map}
use Rattle.std.specs.List.{AllByRecursion}
use Rattle.std.specs.Option.{option_map}
use Rattle.git_object.specs.Repository.{Repository}
use Rattle.rsl_chain.specs.Entries.{Taken}
use Rattle.rsl_chain.specs.declared.entries.Entry.{Entry}
use Rattle.judging.specs.Engines.{Stands, has_taken, taken}
use Rattle.judging.specs.Rules.{Rules}
use Rattle.judging.specs.declared.engine.Engine.{Engine}
use Rattle.policy_epochs.specs.declared.policies.Policy.{Policy}
use Rattle.rsl_chain.specs.Logs.{entry_at}
use Rattle.rsl_chain.specs.declared.log_faults.LogFault.{LogFault}
use Rattle.rsl_chain.specs.declared.log_faults.LogFault.TheVariants.{Broken, Failed, Memory}
use Rattle.entry_rules.specs.declared.faults.Fault.{Fault}

-- the entry at an id, to be judged in the repository
abbrev pub taken_at : Repository → List ℕ → Option Taken
taken_at r id = option_map (λ entry. record { entry = entry; repository = r }) (entry_at r id)

-- these are the entries at the ids, in their order
abbrev pub AreEntries : Repository → List (List ℕ) → List Taken → Type 0
AreEntries r ids log = map (taken_at r) ids ≡ map (λ t. Some t) log

-- ---- the engine's steps

-- the entry has the next number, and none that was taken has its id
abbrev pub comes_next : Engine Policy Fault → Entry → Bool
comes_next engine entry = (entry.number == taken engine + 1) && not (has_taken engine entry.id)

-- the entry at the id is taken
pub record TakesNext (rules : Rules Policy Fault) (r : Repository) (id : List ℕ) (was now : Engine Policy Fault) : Type
    0 where
  pub entry : Entry
  pub there : entry_at r id ≡ Some entry
  pub stands : (log : List Taken) → Stands rules log was
      → Stands rules (log ++ record { entry = entry; repository = r } ∷ []) now

-- where a break is answered, what stands at the id is not the next entry
abbrev pub IsAstray : Repository → Engine Policy Fault → List ℕ → LogFault → Type 0
IsAstray r engine id (Broken named) = (entry : Entry) → entry_at r id ≡ Some entry → comes_next engine entry ≡ false
IsAstray r engine id Failed = Unit {0}
IsAstray r engine id Memory = Unit {0}

-- ---- where the entries at some ids are none of a log

-- the entry would come next behind these: its number is one more than they are, and none of them has its id
pub record ComesBehind (log : List Taken) (entry : Entry) : Type 0 where
  pub number : entry.number ≡ length log + 1
  pub other : AllByRecursion (λ t. t.entry.id ≢ entry.id) log

-- this is the first of the ids at which no entry stands that comes behind those before it
pub record IsFirstAstray (r : Repository) (ids : List (List ℕ)) (id : List ℕ) : Type 0 where
  pub front : List (List ℕ)
  pub rest : List (List ℕ)
  pub is : ids ≡ front ++ id ∷ rest
  pub log : List Taken
  pub entries : AreEntries r front log
  pub none : (entry : Entry) → entry_at r id ≡ Some entry → ComesBehind log entry → ⊥

-- a break that is answered names it
abbrev pub BreaksAt : Repository → List (List ℕ) → LogFault → Type 0
BreaksAt r ids (Broken id) = IsFirstAstray r ids id
BreaksAt r ids Failed = Unit {0}
BreaksAt r ids Memory = Unit {0}
