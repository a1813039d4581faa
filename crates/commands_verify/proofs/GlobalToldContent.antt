-- What the command comes to where the store tells what it holds.
use Rattle.std.proofs.Common.{◌⊎◌, ℕ, List, inl, inr, refl}
use Rattle.std.specs.Prelude.{Option, Some, Result, Ok, Err}
use Rattle.git_object.specs.Repository.{Repository}
use Rattle.worlds.specs.Endings.{IsStopped}
use Rattle.global_verdicts.specs.declared.verdicts.GlobalVerdict.{GlobalVerdict}
use Rattle.commands_verify.specs.GlobalContents.{GlobalComes}
use Rattle.commands_verify.specs.GlobalVerifying.{GlobalEnds, global_ending}
use Rattle.commands_verify.specs.declared.global_verifying.VerifyFault.{VerifyFault}
use Rattle.commands_verify.specs.declared.global_verifying.VerifyFault.TheVariants.{LogBroken, KeeperFailed, SinkFailed, Memory}

pub told_global : (name : List ℕ) (root : Option (List (List ℕ))) (held : Repository) (printed printed_now : Option (List ℕ)) (outcome : Result GlobalVerdict VerifyFault)
    → GlobalEnds name root (Some held) printed printed_now outcome → GlobalComes name root held outcome ⊎ IsStopped (global_ending outcome)
told_global name root held printed printed_now (Ok verdict) ends = inl (ends.finds held refl)
told_global name root held printed printed_now (Err (LogBroken id)) ends = inl (ends.finds held refl)
told_global name root held printed printed_now (Err KeeperFailed) ends = inr tt
told_global name root held printed printed_now (Err SinkFailed) ends = inr tt
told_global name root held printed printed_now (Err Memory) ends = inr tt
