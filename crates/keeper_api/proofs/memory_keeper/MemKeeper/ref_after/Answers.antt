use Rattle.std.proofs.Common.{Some, ap, ◌∙◌}
use Rattle.std.specs.Option.{option_copied, option_map}
use Rattle.octets.specs.BytesMap.{entry_after}
use Rattle.keeper_api.specs.Changes.{ref_value}
use Rattle.keeper_api.proofs.Following.{tree_after}
use Rattle.keeper_api.proofs.memory_keeper.MemKeeper.ref_after.Goals as goal

pub returns-in_ok-copied-in-Some-clause-found : goal.returns-in_ok-copied-in-Some-clause-found
returns-in_ok-copied-in-Some-clause-found c =
    (λ i. Some (record { name = c.in_ok-copied-in-Some.ensures i; id = c.in-Some.id.now }))
    ∙ ap (option_map ref_value) (c.in-Some.ensures.first ∙ tree_after c.self.inside.refs c.in-Some.ensures.ordered (option_copied c.args.after))
    ∙ ap (λ s. option_map ref_value (entry_after s.held.refs (option_copied c.args.after))) c.self.view_is

pub returns-in-None-clause-found : goal.returns-in-None-clause-found
returns-in-None-clause-found c =
    ap (option_map ref_value) (c.in-None.ensures.first ∙ tree_after c.self.inside.refs c.in-None.ensures.ordered (option_copied c.args.after))
    ∙ ap (λ s. option_map ref_value (entry_after s.held.refs (option_copied c.args.after))) c.self.view_is

pub returns-in_err-copied-in-Some-clause-none : goal.returns-in_err-copied-in-Some-clause-none
returns-in_err-copied-in-Some-clause-none c = λ none.
    absurd (cc (c.in-Some.ensures.first ∙ tree_after c.self.inside.refs c.in-Some.ensures.ordered (option_copied c.args.after)
    ∙ ap (λ s. entry_after s.held.refs (option_copied c.args.after)) c.self.view_is ∙ none))
