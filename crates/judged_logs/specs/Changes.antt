-- What a gate makes of changes that add entries, one after the other.
use Rattle.std.specs.Prelude.{◌≡◌, ◌++◌, ◌∷◌, [], List}
use Rattle.git_object.specs.Repository.{Repository}
use Rattle.keeper_api.specs.Changes.{changed}
use Rattle.keeper_api.specs.declared.changes.Change.{Change}
use Rattle.rsl_chain.specs.Entries.{Taken}
use Rattle.rsl_chain.specs.declared.entries.Entry.{Entry}
use Rattle.judging.specs.Rules.{Rules}
use Rattle.judging.specs.Verdicts.{verdict_of}
use Rattle.judging.specs.declared.verdicts.EntryVerdict.TheVariants.{Refused}
use Rattle.keeper_api.specs.Growing.{NoneClashes}

-- an entry, and the change by which a desk would add it
pub record Addition : Type 0 where
  pub entry : Entry
  pub change : Change

-- the entry, to be judged in the repository that the change would make
abbrev pub taken_by : Repository → Addition → Taken
taken_by r addition = record { entry = addition.entry; repository = changed addition.change r }

-- what came of one: nothing is added, whatever was answered, or it is
pub data Outcome : Type 0 where
  Nothing : Outcome
  Added : (addition : Addition) → Outcome

module _ {P F : Type 0} (rules : Rules P F) where
  -- its entry is not refused, and none of its objects clashes with one that is kept
  pub record MayPass (log : List Taken) (r : Repository) (addition : Addition) : Type 0 where
    pub none_clash : NoneClashes addition.change.objects r
    pub not_denied : (fault : F) → verdict_of rules log (taken_by r addition) ≡ Refused fault → ⊥

  -- behind this log, in this repository
  abbrev pub ArePassed : List Taken → Repository → List Outcome → Type 0
  ArePassed log r [] = Unit {0}
  ArePassed log r (Nothing ∷ more) = ArePassed log r more
  ArePassed log r (Added addition ∷ more) = MayPass log r addition
      × ArePassed (log ++ taken_by r addition ∷ []) (changed addition.change r) more

-- the entries that are added, each in the repository right after it
abbrev pub added : Repository → List Outcome → List Taken
added r [] = []
added r (Nothing ∷ more) = added r more
added r (Added addition ∷ more) = taken_by r addition ∷ added (changed addition.change r) more

-- the repository behind them
abbrev pub store_after : Repository → List Outcome → Repository
store_after r [] = r
store_after r (Nothing ∷ more) = store_after r more
store_after r (Added addition ∷ more) = store_after (changed addition.change r) more
