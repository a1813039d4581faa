use Rattle.std.proofs.Common.{◌≡◌, ◌∙◌, ℕ, List, [], ap, arith, subst, sym}
use Rattle.tree_paths.specs.Known.{IsAt}
use Rattle.tree_paths.specs.declared.heads.Peeled.{Peeled}
use Rattle.tree_paths.specs.declared.heads.Peeled.TheVariants.{At, Bad, Nothing}
use Rattle.tree_paths.specs.declared.known_trees.KnownTrees.{KnownTrees}
use Rattle.tree_paths.proofs.ObjectsRead.{kept_told}
use Rattle.tree_paths.proofs.additions.learn.Goals as goal

abbrev tree_in : Peeled → List ℕ
tree_in Nothing = []
tree_in (Bad id) = []
tree_in (At commit tree) = tree

pub returns-in_err-adds-in-At-clause-spared : goal.returns-in_err-adds-in-At-clause-spared
returns-in_err-adds-in-At-clause-spared g c = λ readings commit tree told is room at.
    let root : c.in_ok-tree.field-0 ≡ At commit tree = c.in_ok-tree.ensures.root readings (kept_told readings c.learn_tree.ensures.same.content told) ∙ is in
    let here : At c.in-At.commit c.in-At.tree ≡ At commit tree = sym c.in-At.is ∙ root in
    let known = subst (λ (id : List ℕ). IsAt c.make_room.new.self id 32 0) (sym (ap tree_in here)) (subst (λ (k : KnownTrees). IsAt k tree 32 0) (sym (c.make_room.ensures.same room)) at) in
    omega (arith, c.root_of.ensures.reads, c.learn_tree.ensures.spared known)

pub returns-in-Some-clause-spared : goal.returns-in-Some-clause-spared
returns-in-Some-clause-spared g c = λ readings commit tree told is room at.
    let root : c.in_ok-tree.field-0 ≡ At commit tree = c.in_ok-tree.ensures.root readings (kept_told readings c.learn_tree.ensures.same.content told) ∙ is in
    let here : At c.in-At.commit c.in-At.tree ≡ At commit tree = sym c.in-At.is ∙ root in
    let known = subst (λ (id : List ℕ). IsAt c.make_room.new.self id 32 0) (sym (ap tree_in here)) (subst (λ (k : KnownTrees). IsAt k tree 32 0) (sym (c.make_room.ensures.same room)) at) in
    omega (arith, c.root_of.ensures.reads, c.learn_tree.ensures.spared known)

pub returns-in-None-clause-spared : goal.returns-in-None-clause-spared
returns-in-None-clause-spared g c = λ readings commit tree told is room at.
    let root : c.in_ok-tree.field-0 ≡ At commit tree = c.in_ok-tree.ensures.root readings (kept_told readings c.learn_tree.ensures.same.content told) ∙ is in
    let here : At c.in-At.commit c.in-At.tree ≡ At commit tree = sym c.in-At.is ∙ root in
    let known = subst (λ (id : List ℕ). IsAt c.make_room.new.self id 32 0) (sym (ap tree_in here)) (subst (λ (k : KnownTrees). IsAt k tree 32 0) (sym (c.make_room.ensures.same room)) at) in
    omega (arith, c.root_of.ensures.reads, c.learn_tree.ensures.spared known)
