use Rattle.std.proofs.Common.{ap, ◌∙◌}
use Rattle.std.specs.Option.{option_copied, option_map}
use Rattle.octets.specs.BytesMap.{entry_after}
use Rattle.keeper_api.proofs.Following.{tree_after}
use Rattle.keeper_api.proofs.memory_keeper.MemKeeper.object_after.Goals as goal

pub returns-in-Some : goal.returns-in-Some
returns-in-Some c =
    ap (option_map (λ e. e.0)) (c.in-Some.ensures.first ∙ tree_after c.self.inside.objects c.in-Some.ensures.ordered (option_copied c.args.after))
    ∙ ap (λ s. option_map (λ e. e.0) (entry_after s.held.objects (option_copied c.args.after))) c.self.view_is

pub returns-in-None : goal.returns-in-None
returns-in-None c =
    ap (option_map (λ e. e.0)) (c.in-None.ensures.first ∙ tree_after c.self.inside.objects c.in-None.ensures.ordered (option_copied c.args.after))
    ∙ ap (λ s. option_map (λ e. e.0) (entry_after s.held.objects (option_copied c.args.after))) c.self.view_is
