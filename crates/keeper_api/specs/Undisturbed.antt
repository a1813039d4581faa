-- What callers say of a keeper to which they made no commit.
use Rattle.keeper_api.specs.Keepers.{AsBefore}
use Rattle.keeper_api.specs.declared.keepers.Keeper.{Ghosts}

-- the same is held, and a stop may leave what it could
abbrev pub Undisturbed : {S : Type 0} → Ghosts S → S → S → Type 0
Undisturbed keeper old new =
    AsBefore (keeper.content old) (keeper.content new) (keeper.tells_left old) (keeper.tells_left new) (keeper.left old)
    (keeper.left new)
    (λ first. keeper.comes first old) (λ first. keeper.comes first new)
