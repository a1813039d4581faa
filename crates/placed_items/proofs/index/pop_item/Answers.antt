use Rattle.std.proofs.Common.{◌≡◌, ℕ, length, List, subst, rules}
use Rattle.std.specs.BTreeMap as tree
use Rattle.octets.specs.BytesMap.{by_bytes}
use Rattle.placed_items.specs.Fronts.{AreTold, HasLetGo, front_of}
use Rattle.placed_items.proofs.Telling.{gone_told}
use Rattle.placed_items.proofs.index.pop_item.Goals as goal

pub returns-clause-told : goal.returns-clause-told
returns-clause-told g c =
    let id = g.T.Identified.id in
    let items = c.pop.new.self.items in
    let last = c.in-Some.last in
    let had_fronts = tree.get by_bytes c.args.places.now.fronts in
    let had_wholes = tree.get by_bytes c.args.places.now.wholes in
    let fronts = tree.get by_bytes c.let_front_go.new.fronts in
    let wholes = tree.get by_bytes c.let_whole_go.new.wholes in
    let count : c.len-place.result ≡ length items = search rules in
    gone_told id items last had_fronts had_wholes fronts wholes
    (subst (λ xs. AreTold id xs had_fronts had_wholes) c.in-Some.ensures.items c.requires.told)
    (subst (λ (n : ℕ). HasLetGo had_fronts fronts (front_of (id last)) n) count
    (subst (λ (key : List ℕ). HasLetGo had_fronts fronts (front_of key) c.len-place.result) c.id-id.ensures
    (subst (λ (key : List ℕ). HasLetGo had_fronts fronts key c.len-place.result) c.front_of.ensures c.let_front_go.ensures)))
    (subst (λ (n : ℕ). HasLetGo had_wholes wholes (id last) n) count
    (subst (λ (key : List ℕ). HasLetGo had_wholes wholes key c.len-place.result) c.id-id.ensures c.let_whole_go.ensures))
