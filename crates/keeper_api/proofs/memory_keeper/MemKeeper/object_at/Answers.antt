use Rattle.std.proofs.Common.{Some, sym, ap, ◌∙◌}
use Rattle.std.proofs.lemmas.Cmp.{nat_list_cmp_total}
use Rattle.std.specs.FinMap.{get}
use Rattle.keeper_api.proofs.Trees.{get_tree}
use Rattle.keeper_api.proofs.memory_keeper.MemKeeper.object_at.Goals as goal

pub returns-in_ok-copied-in-Some-clause-found : goal.returns-in_ok-copied-in-Some-clause-found
returns-in_ok-copied-in-Some-clause-found c =
    (λ i. Some (c.in_ok-copied-in-Some.ensures i)) ∙ c.in-Some.ensures.value
    ∙ sym (get_tree nat_list_cmp_total c.self.inside.objects c.args.id.now)
    ∙ ap (λ s. get s.held.objects c.args.id.now) c.self.view_is

pub returns-in-None-clause-found : goal.returns-in-None-clause-found
returns-in-None-clause-found c =
    c.in-None.ensures.value
    ∙ sym (get_tree nat_list_cmp_total c.self.inside.objects c.args.id.now)
    ∙ ap (λ s. get s.held.objects c.args.id.now) c.self.view_is

pub returns-in_err-copied-in-Some-clause-none : goal.returns-in_err-copied-in-Some-clause-none
returns-in_err-copied-in-Some-clause-none c = λ none.
    absurd (cc (c.in-Some.ensures.value
    ∙ sym (get_tree nat_list_cmp_total c.self.inside.objects c.args.id.now)
    ∙ ap (λ s. get s.held.objects c.args.id.now) c.self.view_is ∙ none))
