use Rattle.std.proofs.Common.{rules, sym, ap, subst, ◌∙◌}
use Rattle.std.proofs.lemmas.Fn.{always_returns_same}
use Rattle.std.proofs.lemmas.Cmp.{nat_list_cmp_total}
use Rattle.std.proofs.lemmas.List.Sorted.{searchable_from_sorted}
use Rattle.octets.specs.BytesMap.{by_bytes}
use Rattle.root_metadata.specs.Risings.{IsRising, has_key}
use Rattle.root_metadata.proofs.Sortedness.{found_key, keys_sorted, missed_key}
use Rattle.root_metadata.proofs.rising.Rising.has.Goals as goal

pub returns-in-Ok : goal.returns-in-Ok
returns-in-Ok g c =
    let found = c.in-Ok.ensures.position (λ x. by_bytes (g.T.Keyed.key x) c.args.key.now) (always_returns_same _ _ _ (λ a r f' k. search rules)) in
    sym (found_key g.T.Keyed.key c.as_slice-items.result.now c.args.key.now c.in-Ok.field-0 c.in-Ok.ensures.bound found)
    ∙ ap (λ items. has_key g.T.Keyed.key items c.args.key.now) (c.as_slice-items.ensures ∙ c.self.view_is)

pub returns-in-Err : goal.returns-in-Err
returns-in-Err g c =
    let rising = subst (λ items. IsRising g.T.Keyed.key items) (sym c.as_slice-items.ensures) c.self.invariant in
    let missed = c.in-Err.ensures.position (λ x. by_bytes (g.T.Keyed.key x) c.args.key.now) (always_returns_same _ _ _ (λ a r f' k. search rules))
    (searchable_from_sorted nat_list_cmp_total g.T.Keyed.key c.as_slice-items.result.now c.args.key.now (keys_sorted g.T.Keyed.key c.as_slice-items.result.now rising)) in
    sym (missed_key g.T.Keyed.key c.as_slice-items.result.now c.args.key.now c.in-Err.field-0 missed.0 missed.1)
    ∙ ap (λ items. has_key g.T.Keyed.key items c.args.key.now) (c.as_slice-items.ensures ∙ c.self.view_is)
