use Rattle.std.proofs.Common.{◌≡◌, List, ℕ, [], ◌∷◌, ◌++◌, sym, ap, subst, ◌∙◌}
use Rattle.std.proofs.lemmas.Bool.{false≢true}
use Rattle.git_object.specs.Trees.{IsTreeFront}
use Rattle.git_object.specs.EntryParts.{AllPrecede, entry_of}
use Rattle.git_object.specs.declared.trees.TreeEntry.{TreeEntry}
use Rattle.git_object.proofs.TreeLemmas.{entries_push, entry_shorter, fault_of_order, first_there}
use Rattle.git_object.proofs.trees.Tree.read.Goals as goal

pub returns-then-not-comes_next-clause-bad : goal.returns-then-not-comes_next-clause-bad
returns-then-not-comes_next-clause-bad c =
    let found = c.in-Some.found in
    let entry : TreeEntry = entry_of found.0.mode found.0.name.now found.0.id in
    fault_of_order c.entries.entries entry c.args.body.now c.entries.rest.now found.1.now c.entries.invariant c.in-Some.ensures.named c.in-Some.ensures.valid c.in-Some.ensures.found
    (λ all. false≢true (sym c.if-not-comes_next.true ∙ c.comes_next.ensures.1 (subst (λ es. AllPrecede es entry) (sym c.as_slice.ensures) all)))

pub entries-smaller : goal.entries-smaller
entries-smaller c =
    let found = c.in-Some.found in
    entry_shorter (entry_of found.0.mode found.0.name.now found.0.id) found.1.now c.entries.rest.now c.in-Some.ensures.found

pub entries-preserved : goal.entries-preserved
entries-preserved c =
    let found = c.in-Some.found in
    let entry : TreeEntry = entry_of found.0.mode found.0.name.now found.0.id in
    let pushed : c.push.new.self ≡ c.entries.entries ++ entry ∷ [] =
    c.in_ok-push.ensures.added ∙ ap (λ (name : List ℕ). c.entries.entries ++ entry_of found.0.mode name found.0.id ∷ []) c.in_ok-name.ensures in
    subst (λ es. IsTreeFront es c.args.body.now found.1.now) (sym pushed)
    (entries_push c.entries.entries entry c.args.body.now c.entries.rest.now found.1.now c.entries.invariant c.in-Some.ensures.named c.in-Some.ensures.valid
    (subst (λ es. AllPrecede es entry) c.as_slice.ensures (c.comes_next.ensures.0 c.if-not-comes_next.false)) c.in-Some.ensures.found)

pub returns-in_err-name-clause-begun : goal.returns-in_err-name-clause-begun
returns-in_err-name-clause-begun c _ =
    let found = c.in-Some.found in
    let entry : TreeEntry = entry_of found.0.mode found.0.name.now found.0.id in
    first_there c.entries.entries entry c.args.body.now c.entries.rest.now found.1.now c.entries.invariant c.in-Some.ensures.named c.in-Some.ensures.valid
    (subst (λ es. AllPrecede es entry) c.as_slice.ensures (c.comes_next.ensures.0 c.if-not-comes_next.false)) c.in-Some.ensures.found

pub returns-in_err-push-clause-begun : goal.returns-in_err-push-clause-begun
returns-in_err-push-clause-begun c _ =
    let found = c.in-Some.found in
    let entry : TreeEntry = entry_of found.0.mode found.0.name.now found.0.id in
    first_there c.entries.entries entry c.args.body.now c.entries.rest.now found.1.now c.entries.invariant c.in-Some.ensures.named c.in-Some.ensures.valid
    (subst (λ es. AllPrecede es entry) c.as_slice.ensures (c.comes_next.ensures.0 c.if-not-comes_next.false)) c.in-Some.ensures.found
