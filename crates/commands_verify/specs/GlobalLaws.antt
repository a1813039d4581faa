-- The laws of `verify-global`: one outcome at most, and what is told is that one.
use Rattle.std.specs.Prelude.{◌≡◌, ◌⊎◌, ℕ, List, Option, Some, Result}
use Rattle.git_object.specs.Repository.{Repository}
use Rattle.worlds.specs.Endings.{IsStopped}
use Rattle.global_verdicts.specs.declared.verdicts.GlobalVerdict.{GlobalVerdict}
use Rattle.commands_verify.specs.GlobalContents.{GlobalComes}
use Rattle.commands_verify.specs.GlobalVerifying.{GlobalEnds, global_ending}
use Rattle.commands_verify.specs.declared.global_verifying.VerifyFault.{VerifyFault}

-- it comes to one outcome at most
pub record OneOfGlobal : Type 0 where
  pub global : (name : List ℕ) (root : Option (List (List ℕ))) (held : Repository)
      (a b : Result GlobalVerdict VerifyFault)
      → GlobalComes name root held a → GlobalComes name root held b → a ≡ b

-- what ended is what the command comes to, or it stopped
pub record TellsOfGlobal : Type 0 where
  pub global : (name : List ℕ) (root : Option (List (List ℕ))) (held : Repository)
      (printed printed_now : Option (List ℕ)) (outcome : Result GlobalVerdict VerifyFault)
      → GlobalEnds name root (Some held) printed printed_now outcome
      → GlobalComes name root held outcome ⊎ IsStopped (global_ending outcome)
