-- A state that was just loaded.
use Rattle.std.specs.Prelude.{◌≡◌, ◌≤◌, [], length, Option, None}
use Rattle.git_object.specs.Repository.{Repository}
use Rattle.verify_ref.specs.Following.{Follows}
use Rattle.desk_turns.specs.States.{IsLoaded}
use Rattle.desk_core.specs.declared.desk_state.DeskState.{DeskState}

-- it has the log of the store, and no entry is judged yet
pub record IsUnjudged (content : Option Repository) (state : DeskState) : Type 0 where
  pub loaded : IsLoaded content state.log
  pub few : length state.log.log ≤ 1000000
  pub follows : Follows [] state.engine
  pub anchor : state.engine.rules.anchor ≡ None
