use Rattle.std.proofs.Common.{◌≡◌, ap, ◌∙◌, refl}
use Rattle.std.specs.Ordering.{nat_cmp}
use Rattle.std.specs.Slice.Iter.{iter_rest}
use Rattle.std.proofs.lemmas.Iterator.{YieldsList-from_slice}
use Rattle.std.proofs.lemmas.Iterator.Consumers.{YieldsList-from_chain}
use Rattle.std.proofs.lemmas.Iterator.Search.{cmp_from_yields_List}
use Rattle.git_object.specs.Modes.{key_end}
use Rattle.tree_paths.proofs.places.compare_keys.Goals as goal

pub returns : goal.returns
returns c =
    cmp_from_yields_List (λ x y. y ≡ x) _ nat_cmp _ c.cmp.ensures.ran
    (YieldsList-from_chain (YieldsList-from_slice c.args.left.now (ap iter_rest c.chain.ensures.first ∙ c.iter.ensures.rest))
    (YieldsList-from_slice (key_end c.args.left_mode) (c.chain.ensures.second.0 ∙ c.key_end.ensures)) c.chain.ensures.first_done c.chain.ensures.second_done)
    (λ it e. rw e (YieldsList-from_chain (YieldsList-from_slice c.args.right.now (ap iter_rest c.chain-2.ensures.first ∙ c.iter-2.ensures.rest))
    (YieldsList-from_slice (key_end c.args.right_mode) (c.chain-2.ensures.second.0 ∙ c.key_end-2.ensures)) c.chain-2.ensures.first_done c.chain-2.ensures.second_done))
    (λ x y. refl)
