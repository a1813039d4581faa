use Rattle.std.proofs.Common.{List, ℕ, [], ◌∷◌, ◌++◌, sym, subst}
use Rattle.std.specs.List.Sorted.{IsPermutation}
use Rattle.pushes.proofs.Written.{found_of, stops_of, those_of}
use Rattle.pushes.proofs.making.gather_with.Goals as goal

pub returns-clause-those : goal.returns-clause-those
returns-clause-those g c =
    let xs = c.args.ids.items ++ c.args.id.now ∷ [] in
    let moved = subst (λ (ys : List (List ℕ)). IsPermutation xs ys) (sym c.as_slice.ensures.value) c.in_ok-all.ensures.permutation in
    those_of xs c.as_slice.result.now moved (g.R.Keeper.content c.gather.new.keeper) c.gather.result c.gather.ensures.those

pub returns-clause-found : goal.returns-clause-found
returns-clause-found g c =
    let xs = c.args.ids.items ++ c.args.id.now ∷ [] in
    let moved = subst (λ (ys : List (List ℕ)). IsPermutation xs ys) (sym c.as_slice.ensures.value) c.in_ok-all.ensures.permutation in
    found_of xs c.as_slice.result.now moved (g.R.Keeper.content c.gather.new.keeper) c.gather.result c.gather.ensures.found

pub returns-clause-stops : goal.returns-clause-stops
returns-clause-stops g c =
    let xs = c.args.ids.items ++ c.args.id.now ∷ [] in
    let moved = subst (λ (ys : List (List ℕ)). IsPermutation xs ys) (sym c.as_slice.ensures.value) c.in_ok-all.ensures.permutation in
    stops_of xs c.as_slice.result.now moved (g.R.Keeper.content c.gather.new.keeper) c.gather.result c.gather.ensures.stops
