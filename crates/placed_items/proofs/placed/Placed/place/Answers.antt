use Rattle.std.proofs.Common.{◌≡◌, ◌^◌, length, sym, ap, ◌∙◌, arith}
use Rattle.std.specs.BTreeMap as tree
use Rattle.octets.specs.BytesMap.{by_bytes}
use Rattle.placed_items.specs.Fronts.{told_place}
use Rattle.placed_items.specs.Places.{place_of}
use Rattle.placed_items.proofs.Placing.{if_within, place_within}
use Rattle.placed_items.proofs.placed.Placed.place.Goals as goal

pub returns-clause-place : goal.returns-clause-place
returns-clause-place g c =
    let fronts = tree.get by_bytes c.self.inside.places.fronts in
    let wholes = tree.get by_bytes c.self.inside.places.wholes in
    c.place_at.ensures
    ∙ ap (λ xs. told_place g.T.Identified.id xs fronts wholes c.args.id.now) c.as_slice.ensures.value
    ∙ c.self.invariant.places c.args.id.now ∙ ap (λ xs. place_of g.T.Identified.id xs c.args.id.now) c.self.view_is

pub returns-clause-within : goal.returns-clause-within
returns-clause-within g c =
    let place : c.place_at.result ≡ place_of g.T.Identified.id c.args.self.now c.args.id.now = returns-clause-place g c in
    if_within c.place_at.result (length c.args.self.now) (λ n e. place_within g.T.Identified.id c.args.self.now c.args.id.now n (sym place ∙ e))

pub returns-clause-small : goal.returns-clause-small
returns-clause-small g c =
    let place : c.place_at.result ≡ place_of g.T.Identified.id c.args.self.now c.args.id.now = returns-clause-place g c in
    if_within c.place_at.result (2 ^ 63) (λ n e.
    let less = place_within g.T.Identified.id c.args.self.now c.args.id.now n (sym place ∙ e) in
    let count = c.len-count.ensures.count in
    let small = c.len-count.ensures.small in
    omega (arith, less, count, small))
