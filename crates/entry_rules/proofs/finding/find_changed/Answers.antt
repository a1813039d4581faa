use Rattle.std.proofs.Common.{◌≡◌, Some, ap, sym, subst, ◌∙◌}
use Rattle.std.specs.Option.{option_copied}
use Rattle.tree_paths.specs.Changes.{AreChanged, IsChange, IsComparison}
use Rattle.tree_paths.specs.Repositories.{readings_of}
use Rattle.tree_paths.specs.States.{map_at, walk_of}
use Rattle.entry_rules.specs.Faults.{rules_fault, signers_for}
use Rattle.entry_rules.specs.Signing.{approved, joined, signer_among, tree_in}
use Rattle.entry_rules.proofs.Comparing.{sound_fault, sound_tree}
use Rattle.entry_rules.proofs.finding.find_changed.Goals as goal

pub returns-in_ok-signers-in-Changed-2-clause-fault : goal.returns-in_ok-signers-in-Changed-2-clause-fault
returns-in_ok-signers-in-Changed-2-clause-fault g c = λ r told.
    let policy = c.args.policy.now in
    let name = c.args.name.now in
    let attested = option_copied c.args.attested in
    let s = walk_of (readings_of r) c.args.from.now in
    let t = walk_of (readings_of r) c.args.target.now in
    let before = c.in_ok-signers-in-Changed.ensures.same.content r told in
    let change : IsChange s t c.in-Changed.from c.in-Changed.to c.in-Changed.paths = subst (IsComparison s t) c.in-Changed.is (c.requires.compared r before) in
    let to : tree_in t ≡ Some c.in-Changed.to = sound_tree t c.in-Changed.to change.to_sound change.to_is in
    let who = c.in_ok-signers-in-Changed.ensures.signers r told
    ∙ ap (λ o. joined (signer_among policy.keys c.args.entry.now) (approved r policy.keys name c.args.from.now attested o)) (sym to) in
    let paths : AreChanged (map_at s) (map_at t) c.as_slice-paths.result.now = subst (AreChanged (map_at s) (map_at t)) (sym c.as_slice-paths.ensures) change.changed in
    c.in_ok-fault-in-Changed.ensures s t paths
    ∙ ap (λ ids. rules_fault policy.rules name ids s t) who
    ∙ sym (sound_fault policy.rules name (signers_for r policy c.args.entry.now c.args.from.now attested name c.args.target.now) s t change.from_sound change.to_sound)
