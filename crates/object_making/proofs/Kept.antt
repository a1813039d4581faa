-- A repository's trees keep the objects that it has.
use Rattle.std.proofs.Common.{◌≡◌, List, [], ◌∷◌, Option, Some, None, sym, ap, subst, ◌∙◌}
use Rattle.std.specs.List.{AllByRecursion}
use Rattle.std.proofs.lemmas.Option.{same_Some}
use Rattle.git_object.specs.Objects.{Pair, pair_id}
use Rattle.git_object.specs.Repository.{HasObject, Repository}
use Rattle.git_object.specs.Trees.{IsTreeText}
use Rattle.git_object.specs.declared.kinds.Kind.TheVariants as kind
use Rattle.git_object.specs.declared.trees.Tree.{Tree}
use Rattle.git_object.specs.declared.trees.TreeEntry.{TreeEntry}
use Rattle.git_object.proofs.TreeLemmas.{one_value}
use Rattle.tree_paths.specs.Readings.{AreReadings, IsTreeAt, Readings}
use Rattle.object_making.specs.Keeping.{Keeps}

kept_at : (r : Repository) (pair : Pair) (found : Option (List TreeEntry)) → HasObject r (pair_id pair) pair → IsTreeAt r (pair_id pair) found
    → (entries : List TreeEntry) → pair.kind ≡ kind.Tree → IsTreeText (record { entries = entries }) pair.body → found ≡ Some entries
kept_at r pair None has none entries is text = absurd (none entries (record { pair = pair; kept = has; kind_is = is; text = text }))
kept_at r pair (Some es) has is_tree entries is text =
    let same : is_tree.pair ≡ pair = same_Some is_tree.pair pair (sym is_tree.kept.kept ∙ has.kept) in
    let tree : record { entries = es } ≡ record { entries = entries } = one_value (record { entries = es }) (record { entries = entries }) pair.body
    (subst (λ (p : Pair). IsTreeText (record { entries = es }) p.body) same is_tree.text) text in
    ap (λ (t : Tree). Some t.entries) tree

pub kept_all : (r : Repository) (readings : Readings) → AreReadings r readings → (pairs : List Pair) → AllByRecursion (λ pair. HasObject r (pair_id pair) pair) pairs → Keeps readings.trees pairs
kept_all r readings are [] all = tt
kept_all r readings are (pair ∷ pairs) all = (kept_at r pair (readings.trees (pair_id pair)) all.0 (are.trees (pair_id pair)), kept_all r readings are pairs all.1)
