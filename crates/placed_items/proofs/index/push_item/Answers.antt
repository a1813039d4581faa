use Rattle.std.proofs.Common.{◌≡◌, ◌++◌, ◌∷◌, [], ℕ, List, is_some, length, sym, ap, subst, ◌∙◌, rules}
use Rattle.std.specs.BTreeMap as tree
use Rattle.octets.specs.BytesMap.{by_bytes}
use Rattle.placed_items.specs.Fronts.{AreTold, IsPut, told_place}
use Rattle.placed_items.proofs.Telling.{put_told, some_told}
use Rattle.placed_items.proofs.index.push_item.Goals as goal

pub returns-then-has-clause-told : goal.returns-then-has-clause-told
returns-then-has-clause-told g c =
    let id = g.T.Identified.id in
    let fronts = tree.get by_bytes c.args.places.now.fronts in
    let wholes = tree.get by_bytes c.args.places.now.wholes in
    let items : c.add_item.new.items.items ≡ c.args.items.now.items ++ c.args.item ∷ [] = search rules in
    subst (λ xs. AreTold id xs fronts wholes) (sym items)
    (some_told id c.args.items.now.items c.args.item fronts wholes c.requires.told
    (ap (λ (x : List ℕ). is_some (told_place id c.args.items.now.items fronts wholes x)) (sym c.id-id.ensures)
    ∙ ap (λ xs. is_some (told_place id xs fronts wholes c.id-id.result)) (sym c.as_slice.ensures.value)
    ∙ ap is_some (sym c.place_at.ensures) ∙ sym c.is_some-has.ensures ∙ c.if-has.true))

pub returns-in-Ok-clause-told : goal.returns-in-Ok-clause-told
returns-in-Ok-clause-told g c =
    let id = g.T.Identified.id in
    let had_fronts = tree.get by_bytes c.args.places.now.fronts in
    let had_wholes = tree.get by_bytes c.args.places.now.wholes in
    let fronts = tree.get by_bytes c.put_place.new.places.fronts in
    let wholes = tree.get by_bytes c.put_place.new.places.wholes in
    let items : c.add_item.new.items.items ≡ c.args.items.now.items ++ c.args.item ∷ [] = search rules in
    let count : c.len-place.result ≡ length c.args.items.now.items = search rules in
    subst (λ xs. AreTold id xs fronts wholes) (sym items)
    (put_told id c.args.items.now.items c.args.item had_fronts had_wholes c.requires.told
    (ap (λ (x : List ℕ). is_some (told_place id c.args.items.now.items had_fronts had_wholes x)) (sym c.id-id.ensures)
    ∙ ap (λ xs. is_some (told_place id xs had_fronts had_wholes c.id-id.result)) (sym c.as_slice.ensures.value)
    ∙ ap is_some (sym c.place_at.ensures) ∙ sym c.is_some-has.ensures ∙ c.if-has.false)
    fronts wholes
    (subst (λ (x : List ℕ). IsPut had_fronts had_wholes fronts wholes x (length c.args.items.now.items)) c.id-id.ensures
    (subst (λ (n : ℕ). IsPut had_fronts had_wholes fronts wholes c.id-id.result n) count c.in-Ok.ensures.put)))
