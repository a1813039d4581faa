-- What a judge leaves of its store, and the fault that the store counts.
use Rattle.std.specs.Prelude.{Bool, true, false, Option}
use Rattle.git_object.specs.Repository.{Repository}
use Rattle.keeper_api.specs.Keepers.{AsBefore}
use Rattle.judging.specs.declared.judges.JudgeFault.{JudgeFault}
use Rattle.judging.specs.declared.judges.JudgeFault.TheVariants.{Failed, Memory}

abbrev pub judge_failed : JudgeFault → Bool
judge_failed Failed = true
judge_failed Memory = false

-- the same is held, and a stop may leave what it could
abbrev pub KeepsStore : {S : Type 0} → (S → Option Repository) → (S → Bool) → (S → Repository → Type 0)
    → (S → S → Type 0) → S → S → Type 0
KeepsStore content tells_left left comes old new =
    AsBefore (content old) (content new) (tells_left old) (tells_left new) (left old) (left new)
    (λ first. comes first old) (λ first. comes first new)
