-- What an outcome means where the source and the store tell what they hold.
use Rattle.std.proofs.Common.{◌≡◌, ◌⊎◌, inl, inr, ℕ, List}
use Rattle.std.specs.Prelude.{Option, Some, Ok, Err, Bool, Result}
use Rattle.git_object.specs.Repository.{Repository}
use Rattle.keeper_api.specs.declared.keepers.Keeper as keeper
use Rattle.worlds.specs.Endings.{IsStopped}
use Rattle.commands_verify.specs.Contents.{VerifyComes}
use Rattle.commands_verify.specs.Verdicts.{RefVerdict}
use Rattle.commands_verify.specs.Verifying.{VerifyEnds, verify_ending}
use Rattle.commands_verify.specs.declared.verifying.VerifyFault.{VerifyFault}
use Rattle.commands_verify.specs.declared.verifying.VerifyFault.TheVariants as verify
use Rattle.commands_stream.proofs.ToldStream.{told_declined, told_opened}

module _ {R : Type 0} (keeper_of : keeper.Ghosts R) (bytes : List ℕ) (left_now : Option (List ℕ)) (was now : Repository) (old new : R) (held : keeper_of.content old ≡ Some was) (holds : keeper_of.content new ≡ Some now) where
  module _ (printed printed_now : Option (List ℕ)) where
    verify_told : (name : List ℕ) (root : Option (List (List ℕ))) (stdin : Bool) (outcome : Result RefVerdict VerifyFault) → VerifyEnds name root stdin keeper_of (Some bytes) left_now old new printed printed_now outcome → VerifyComes name root stdin was bytes outcome ⊎ IsStopped (verify_ending outcome)
    verify_told name root stdin (Ok verdict) ends = inl (record { repository = now; opened = told_opened keeper_of bytes left_now was now old new held holds stdin ends.finds.opens; judged = ends.finds.is now holds })
    verify_told name root stdin (Err (verify.Unopened fault)) ends = elim (told_declined keeper_of bytes left_now was now old new held holds fault ends.why.1) [
      | inl comes ↦ inl (ends.why.0, comes)
      | inr stops ↦ inr stops
    ]
    verify_told name root stdin (Err (verify.LogBroken id)) ends = inl (record { repository = now; opened = told_opened keeper_of bytes left_now was now old new held holds stdin ends.finds.opens; breaks = ends.finds.breaks now holds })
    verify_told name root stdin (Err verify.KeeperFailed) ends = inr tt
    verify_told name root stdin (Err verify.SinkFailed) ends = inr tt
    verify_told name root stdin (Err verify.Memory) ends = inr tt

pub told_verify : {R : Type 0} (keeper_of : keeper.Ghosts R) (name : List ℕ) (root : Option (List (List ℕ))) (stdin : Bool) (bytes : List ℕ) (left_now : Option (List ℕ)) (was now : Repository) (old new : R) (printed printed_now : Option (List ℕ)) (outcome : Result RefVerdict VerifyFault)
    → keeper_of.content old ≡ Some was → keeper_of.content new ≡ Some now
    → VerifyEnds name root stdin keeper_of (Some bytes) left_now old new printed printed_now outcome → VerifyComes name root stdin was bytes outcome ⊎ IsStopped (verify_ending outcome)
told_verify keeper_of name root stdin bytes left_now was now old new printed printed_now outcome held holds ends = verify_told keeper_of bytes left_now was now old new held holds printed printed_now name root stdin outcome ends
