-- The laws of `verify-ref`: one outcome at most, and what is told is that one.
use Rattle.std.specs.Prelude.{◌≡◌, ◌⊎◌, ℕ, List, Option, Some, Result, Bool}
use Rattle.git_object.specs.Repository.{Repository}
use Rattle.keeper_api.specs.declared.keepers.Keeper as keeper
use Rattle.worlds.specs.Endings.{IsStopped}
use Rattle.commands_verify.specs.Contents.{VerifyComes}
use Rattle.commands_verify.specs.Verdicts.{RefVerdict}
use Rattle.commands_verify.specs.Verifying.{VerifyEnds, verify_ending}
use Rattle.commands_verify.specs.declared.verifying.VerifyFault.{VerifyFault}

-- it comes to one outcome at most
pub record OneOfVerify : Type 0 where
  pub verify : (name : List ℕ) (root : Option (List (List ℕ))) (stdin : Bool) (was : Repository) (bytes : List ℕ)
      (a b : Result RefVerdict VerifyFault)
      → VerifyComes name root stdin was bytes a → VerifyComes name root stdin was bytes b → a ≡ b

-- what ended is what the command comes to, or it stopped
pub record TellsOfVerify {R : Type 0} (keeper_of : keeper.Ghosts R) : Type 0 where
  pub verify : (name : List ℕ) (root : Option (List (List ℕ))) (stdin : Bool) (bytes : List ℕ)
      (left_now : Option (List ℕ)) (was now : Repository) (old new : R) (printed printed_now : Option (List ℕ))
      (outcome : Result RefVerdict VerifyFault)
      → keeper_of.content old ≡ Some was → keeper_of.content new ≡ Some now
      → VerifyEnds name root stdin keeper_of (Some bytes) left_now old new printed printed_now outcome
      → VerifyComes name root stdin was bytes outcome ⊎ IsStopped (verify_ending outcome)
