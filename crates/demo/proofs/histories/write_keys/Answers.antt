use Rattle.std.proofs.Common.{◌≡◌, ◌∙◌, ◌+◌, ◌∷◌, [], ap, sym, rules, true, false, List, ℕ}
use Rattle.std.specs.Prelude.{Some, codes}
use Rattle.git_object.specs.EntryParts.{entry_of}
use Rattle.git_object.specs.Objects.{pair_id}
use Rattle.git_object.specs.declared.modes.Mode.TheVariants.{File}
use Rattle.demo.specs.Trees.{tree_pair, writes_key}
use Rattle.demo.proofs.NextSteps.{keys_next, keys_stay}
use Rattle.demo.proofs.histories.write_keys.Goals as goal

pub returns-then-not-writes_key-clause-key_files : goal.returns-then-not-writes_key-clause-key_files
returns-then-not-writes_key-clause-key_files c =
    let none : writes_key (c.args.done + 1) ≡ false = search rules in
    c.requires.key_files ∙ sym (keys_stay c.args.done none)

pub returns-clause-key_files : goal.returns-clause-key_files
returns-clause-key_files c =
    let some : writes_key (c.args.done + 1) ≡ true = search rules in
    ap Some (c.in_ok-id.ensures.id ∙ ap pair_id (c.in_ok-tree.ensures ∙ ap (λ (i : List ℕ). tree_pair (entry_of File (codes "k") i ∷ [])) c.requires.file)) ∙ sym (keys_next c.args.done some)
