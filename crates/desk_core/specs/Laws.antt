-- What holds of an engine that takes the entries behind those that it took.
use Rattle.std.specs.Prelude.{◌≡◌, ◌++◌, ℕ, List, map}
use Rattle.git_object.specs.Repository.{Repository}
use Rattle.rsl_chain.specs.Entries.{Taken}
use Rattle.rsl_chain.specs.Logs.{IsLogOf}
use Rattle.verify_ref.specs.declared.engine.Engine.{Engine}
use Rattle.desk_core.specs.Lagging.{IsFirstAstrayBehind, TakesAll}

abbrev pub taken_id : Taken → List ℕ
taken_id t = t.entry.id

-- where all were taken, none is astray
abbrev pub AllOrAstray : Type 0
AllOrAstray =
    (r : Repository) (log : List Taken) (ids : List (List ℕ)) (id : List ℕ) (now : Engine) → TakesAll r log ids now
    → IsFirstAstrayBehind r log ids id → ⊥

-- at most one is the first that is astray
abbrev pub OneAstray : Type 0
OneAstray =
    (r : Repository) (log : List Taken) (ids : List (List ℕ)) (x y : List ℕ) → IsFirstAstrayBehind r log ids x
    → IsFirstAstrayBehind r log ids y → x ≡ y

-- behind entries with the first ids of a repository's log, none of its further ids is astray
abbrev pub NoneAstrayInLog : Type 0
NoneAstrayInLog =
    (r : Repository) (log : List Taken) (ids : List (List ℕ)) (id : List ℕ) → IsLogOf r (map taken_id log ++ ids)
    → IsFirstAstrayBehind r log ids id → ⊥
