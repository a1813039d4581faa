-- What a store that is lent tells on: what the store itself does, and nothing of what a stop may leave.
use Rattle.std.specs.Prelude.{ℕ, Bool, false, Option}
use Rattle.git_object.specs.Repository.{Repository}
use Rattle.keeper_api.specs.Keepers.{TellsOn}

pub tells_lent : (before after : Option Repository) (told told_now clean clean_now : Bool) (count count_now : ℕ)
    → TellsOn before after told told_now clean clean_now count count_now
    → TellsOn before after false false clean clean_now count count_now
tells_lent before after told told_now clean clean_now count count_now on =
    record { was_clean = on.was_clean; content = on.content; left = λ clean before_end same told. told }
