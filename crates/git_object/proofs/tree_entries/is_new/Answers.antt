use Rattle.std.proofs.Common.{refl, rules}
use Rattle.std.proofs.lemmas.Fn.{always_returns_same}
use Rattle.std.proofs.lemmas.Cmp.{nat_list_cmp_total}
use Rattle.std.proofs.lemmas.List.Sorted.{searchable_from_sorted}
use Rattle.octets.specs.BytesMap.{by_bytes}
use Rattle.git_object.specs.Trees.{sort_key}
use Rattle.git_object.specs.EntryParts.{entry_of}
use Rattle.git_object.specs.declared.trees.TreeEntry.{TreeEntry}
use Rattle.git_object.proofs.KeyLemmas.{file_key, found_no_new, keys_sorted, not_found_new}
use Rattle.git_object.proofs.tree_entries.is_new.Goals as goal

pub returns-in-Ok : goal.returns-in-Ok
returns-in-Ok c =
    let entry = c.args.entry.now in
    let name = entry.name.now in
    let found = c.in-Ok.ensures.position (λ (x : TreeEntry). by_bytes (sort_key x) (file_key name)) (always_returns_same _ _ _ (λ a r f' k. search rules)) in
    (λ no. absurd (cc no), λ other. absurd (found_no_new c.args.entries.now (entry_of entry.mode name entry.id) c.in-Ok.field-0 c.requires.plain c.in-Ok.ensures.bound found other))

pub returns-in-Err : goal.returns-in-Err
returns-in-Err c =
    let entry = c.args.entry.now in
    let name = entry.name.now in
    let missed = c.in-Err.ensures.position (λ (x : TreeEntry). by_bytes (sort_key x) (file_key name)) (always_returns_same _ _ _ (λ a r f' k. search rules))
    (searchable_from_sorted nat_list_cmp_total sort_key c.args.entries.now (file_key name) (keys_sorted c.args.entries.now c.requires.ordered)) in
    (λ yes. not_found_new c.args.entries.now (entry_of entry.mode name entry.id) c.in-Err.field-0 c.requires.less missed.0 missed.1, λ other. refl)
