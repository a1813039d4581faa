-- What each command comes to where the source and the store tell what they hold: one outcome, faults and memory aside.
use Rattle.std.specs.Prelude.{ℕ, List, Option, Result, Ok, Err, Bool, IsTrue}
use Rattle.git_object.specs.Repository.{Repository}
use Rattle.rsl_chain.specs.Logs.{IsBreakOf}
use Rattle.verify_ref.specs.Verdicts.{IsVerdict}
use Rattle.commands_verify.specs.Verdicts.{RefVerdict, anchor_of}
use Rattle.commands_verify.specs.declared.verifying.VerifyFault.{VerifyFault}
use Rattle.commands_verify.specs.declared.verifying.VerifyFault.TheVariants as verify
use Rattle.commands_stream.specs.Contents.{TakeComes, IsOpened}

-- a repository is opened, and this is its verdict
pub record IsJudged (name : List ℕ) (root : Option (List (List ℕ))) (stdin : Bool) (was : Repository) (bytes : List ℕ)
    (verdict : RefVerdict) : Type 0 where
  pub repository : Repository
  pub opened : IsOpened stdin was bytes repository
  pub judged : IsVerdict repository name (anchor_of root) verdict

-- a repository is opened, and its log breaks at this id
pub record IsBrokenLog (stdin : Bool) (was : Repository) (bytes : List ℕ) (id : List ℕ) : Type 0 where
  pub repository : Repository
  pub opened : IsOpened stdin was bytes repository
  pub breaks : IsBreakOf repository id

-- what `verify-ref` comes to
abbrev pub VerifyComes : List ℕ → Option (List (List ℕ)) → Bool → Repository → List ℕ → Result RefVerdict VerifyFault
    → Type 0
VerifyComes name root stdin was bytes (Ok verdict) = IsJudged name root stdin was bytes verdict
VerifyComes name root stdin was bytes (Err (verify.Unopened fault)) = IsTrue stdin × TakeComes was bytes fault
VerifyComes name root stdin was bytes (Err (verify.LogBroken id)) = IsBrokenLog stdin was bytes id
VerifyComes name root stdin was bytes (Err verify.KeeperFailed) = ⊥
VerifyComes name root stdin was bytes (Err verify.SinkFailed) = ⊥
VerifyComes name root stdin was bytes (Err verify.Memory) = ⊥
