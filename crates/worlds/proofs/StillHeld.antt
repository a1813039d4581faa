-- A store that is as it was tells what it told.
use Rattle.std.proofs.Common.{◌≡◌, subst, sym}
use Rattle.std.specs.Prelude.{Option, Some}
use Rattle.git_object.specs.Repository.{Repository}
use Rattle.keeper_api.specs.Undisturbed.{Undisturbed}
use Rattle.worlds.specs.Telling.{Content, TellsStore}
use Rattle.worlds.specs.Worlds.{Types, Ways, World}

same_some : {X : Type 0} (x y : X) (told : Option X) → told ≡ Some x → told ≡ Some y → x ≡ y
same_some x y told e f = cc

module _ {types : Types} (ways : Ways types) where
  pub still_held : (before after : World types) (content : Content) → TellsStore ways before after content
      → Undisturbed ways.keeper before.keeper after.keeper → ways.keeper.content after.keeper ≡ Some content.held
  still_held before after content tells same =
      let held = same.content tells.now tells.holds in
      let is = same_some content.held tells.now (ways.keeper.content before.keeper) tells.held held in
      subst (λ (r : Repository). ways.keeper.content after.keeper ≡ Some r) (sym is) tells.holds
