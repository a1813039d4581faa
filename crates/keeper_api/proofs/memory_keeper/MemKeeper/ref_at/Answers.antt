use Rattle.std.proofs.Common.{sym, ap, ◌∙◌}
use Rattle.std.proofs.lemmas.Cmp.{nat_list_cmp_total}
use Rattle.std.specs.FinMap.{get}
use Rattle.keeper_api.proofs.Trees.{get_tree}
use Rattle.keeper_api.proofs.memory_keeper.MemKeeper.ref_at.Goals as goal

pub returns : goal.returns
returns c =
    c.copied.ensures ∙ c.get.ensures.value
    ∙ sym (get_tree nat_list_cmp_total c.self.inside.refs c.args.name.now)
    ∙ ap (λ s. get s.held.refs c.args.name.now) c.self.view_is
