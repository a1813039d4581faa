use Rattle.std.proofs.Common.{refl, sym, ◌∷◌, subst, Some, None}
use Rattle.git_object.specs.Trees.{AreWellFormed, sort_key}
use Rattle.keeper_api.proofs.Trees.{exact_bytes}
use Rattle.tree_paths.proofs.Turns.{is_next, next_equal, next_greater, next_less}
use Rattle.tree_paths.proofs.Order.{before_tree, turned_back}
use Rattle.tree_paths.proofs.places.next_place.Goals as goal

pub returns-in-Less-clause-found : goal.returns-in-Less-clause-found
returns-in-Less-clause-found c =
    let e = c.in-Some.first.now in
    let f = c.in-Some-split_first-2.second.now in
    let es = c.in-Some.more_from.now in
    let fs = c.in-Some-split_first-2.more_to.now in
    let formed = subst AreWellFormed c.in-Some.ensures.cases.0 c.requires.formed_from in
    let other = subst AreWellFormed c.in-Some-split_first-2.ensures.cases.0 c.requires.formed_to in
    is_next c.args.from.now (e ∷ es) c.args.to.now (f ∷ fs) (Some e) None es c.args.to.now es (f ∷ fs) c.in-Some.ensures.cases.0 c.in-Some-split_first-2.ensures.cases.0 refl c.in-Some-split_first-2.ensures.cases.0
    (next_less e f es fs formed other (before_tree e f es fs formed other (sym c.in-Less.ensures)))

pub returns-in-Equal-clause-found : goal.returns-in-Equal-clause-found
returns-in-Equal-clause-found c =
    let e = c.in-Some.first.now in
    let f = c.in-Some-split_first-2.second.now in
    let es = c.in-Some.more_from.now in
    let fs = c.in-Some-split_first-2.more_to.now in
    let formed = subst AreWellFormed c.in-Some.ensures.cases.0 c.requires.formed_from in
    let other = subst AreWellFormed c.in-Some-split_first-2.ensures.cases.0 c.requires.formed_to in
    is_next c.args.from.now (e ∷ es) c.args.to.now (f ∷ fs) (Some e) (Some f) es fs es fs c.in-Some.ensures.cases.0 c.in-Some-split_first-2.ensures.cases.0 refl refl
    (next_equal e f es fs formed other (exact_bytes (sort_key e) (sort_key f) (sym c.in-Equal.ensures)))

pub returns-in-Greater-clause-found : goal.returns-in-Greater-clause-found
returns-in-Greater-clause-found c =
    let e = c.in-Some.first.now in
    let f = c.in-Some-split_first-2.second.now in
    let es = c.in-Some.more_from.now in
    let fs = c.in-Some-split_first-2.more_to.now in
    let formed = subst AreWellFormed c.in-Some.ensures.cases.0 c.requires.formed_from in
    let other = subst AreWellFormed c.in-Some-split_first-2.ensures.cases.0 c.requires.formed_to in
    is_next c.args.from.now (e ∷ es) c.args.to.now (f ∷ fs) None (Some f) c.args.from.now fs (e ∷ es) fs c.in-Some.ensures.cases.0 c.in-Some-split_first-2.ensures.cases.0 c.in-Some.ensures.cases.0 refl
    (next_greater e f es fs formed other (before_tree f e fs es other formed (turned_back (sort_key e) (sort_key f) (sym c.in-Greater.ensures))))
