-- What a call leaves of what was told.
use Rattle.std.specs.Prelude.{◌≡◌, Bool, true, Option, IsSome, Result}
use Rattle.octets.specs.Content.{Stays}
use Rattle.git_object.specs.Repository.{Repository}
use Rattle.keeper_api.specs.declared.keeper_faults.KeeperFault.{KeeperFault}
use Rattle.keeper_sqlite.specs.Answering.{IsAnswered}

-- what was told is told on after such an answer, where the disk is clean; a disk that is clean was clean before
pub record TellsAfter {T : Type 0} (result : Result T KeeperFault) (before after : Option Repository)
    (told told_now clean clean_now : Bool) : Type 0 where
  pub was_clean : clean_now ≡ true → clean ≡ true
  pub content : clean_now ≡ true → IsAnswered result → IsSome before → IsSome after
  pub left : clean_now ≡ true → IsAnswered result → told ≡ true → told_now ≡ true

-- a call that makes no commit: no more is told, and a stop may leave no more
pub record Looks {T : Type 0} (result : Result T KeeperFault) (before after : Option Repository)
    (told told_now clean clean_now : Bool) (past now : Repository → Type 0) : Type 0 where
  pub content : Stays before after
  pub tells : told_now ≡ true → told ≡ true
  pub left : told_now ≡ true → (r : Repository) → now r → past r
  pub on : TellsAfter result before after told told_now clean clean_now
