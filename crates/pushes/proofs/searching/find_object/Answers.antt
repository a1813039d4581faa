use Rattle.std.proofs.Common.{rules, sym, ◌∙◌}
use Rattle.std.proofs.lemmas.Fn.{always_returns_same}
use Rattle.std.proofs.lemmas.Cmp.{nat_list_cmp_total}
use Rattle.std.proofs.lemmas.List.Sorted.{searchable_from_sorted}
use Rattle.octets.specs.BytesMap.{by_bytes}
use Rattle.git_object.specs.Objects.{Pair, pair_id}
use Rattle.pushes.proofs.Finding.{found_object, ids_sorted, missed_object, some_at}
use Rattle.pushes.proofs.searching.find_object.Goals as goal

pub returns-in-Ok : goal.returns-in-Ok
returns-in-Ok c =
    let found = c.in-Ok.ensures.position (λ (x : Pair). by_bytes (pair_id x) c.args.id.now) (always_returns_same _ _ _ (λ a r f' k. search rules)) in
    some_at c.args.objects.now c.in-Ok.place c.index-objects-place.result c.in-Ok.ensures.bound c.index-objects-place.is
    ∙ sym (found_object c.args.objects.now c.args.id.now c.in-Ok.place c.requires c.in-Ok.ensures.bound found)

pub returns-in-Err : goal.returns-in-Err
returns-in-Err c =
    let missed = c.in-Err.ensures.position (λ (x : Pair). by_bytes (pair_id x) c.args.id.now) (always_returns_same _ _ _ (λ a r f' k. search rules))
    (searchable_from_sorted nat_list_cmp_total pair_id c.args.objects.now c.args.id.now (ids_sorted c.args.objects.now c.requires)) in
    sym (missed_object c.args.objects.now c.args.id.now c.in-Err.field-0 missed.0 missed.1)
