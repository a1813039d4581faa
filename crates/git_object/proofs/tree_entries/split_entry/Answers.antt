use Rattle.std.proofs.Common.{◌≡◌, List, ℕ, ◌∷◌, ◌++◌, sym, ap, subst, ◌∙◌}
use Rattle.std.proofs.lemmas.Bool.{false≢true}
use Rattle.text_reader.proofs.Unique.{has_byte_here, same_until}
use Rattle.text_reader.specs.Line.{has_byte}
use Rattle.git_object.specs.Modes.{mode_text}
use Rattle.git_object.specs.Trees.{IsEntryName, entry_text}
use Rattle.git_object.specs.EntryParts.{entry_of}
use Rattle.git_object.specs.declared.modes.Mode.{Mode}
use Rattle.git_object.specs.declared.trees.TreeEntry.{TreeEntry}
use Rattle.git_object.proofs.TreeLemmas.{entry_then, same_mode}
use Rattle.git_object.proofs.tree_entries.split_entry.Goals as goal

-- what stands after the mode, where the text begins with an entry
after_mode : (text after : List ℕ) (mode : Mode) (e : TreeEntry) (more : List ℕ) → text ≡ mode_text mode ++ 32 ∷ after → text ≡ entry_text e ++ more → after ≡ e.name ++ 0 ∷ (e.id ++ more)
after_mode text after mode e more found same = (same_mode mode e.mode after (e.name ++ 0 ∷ (e.id ++ more)) (sym found ∙ same ∙ entry_then e more)).1

pub returns-in_default-clause-none : goal.returns-in_default-clause-none
returns-in_default-clause-none c = λ e more name id same. c.in_default.ensures.none e.mode (e.name ++ 0 ∷ (e.id ++ more)) (same ∙ entry_then e more)

pub returns-in_default-split_at_zero-clause-none : goal.returns-in_default-split_at_zero-clause-none
returns-in_default-split_at_zero-clause-none c = λ e more name id same.
    let after = after_mode c.args.text.now c.in-Some.after.now c.in-Some.mode e more c.in-Some.ensures.found same in
    false≢true (sym c.in_default-split_at_zero.ensures.none ∙ ap (has_byte 0) after ∙ has_byte_here 0 e.name (e.id ++ more))

pub returns-then-not-is_entry_name-clause-none : goal.returns-then-not-is_entry_name-clause-none
returns-then-not-is_entry_name-clause-none c = λ e more name id same.
    let after = after_mode c.args.text.now c.in-Some.after.now c.in-Some.mode e more c.in-Some.ensures.found same in
    let parts = same_until 0 c.in-Some-split_at_zero.name.now e.name c.in-Some-split_at_zero.last.now (e.id ++ more) c.in-Some-split_at_zero.ensures.first name.no_zero (sym c.in-Some-split_at_zero.ensures.found ∙ after) in
    false≢true (sym c.if-not-is_entry_name.true ∙ c.is_entry_name.ensures.1 (subst IsEntryName (sym parts.0) name))

pub returns-in_default-split_id_bytes-clause-none : goal.returns-in_default-split_id_bytes-clause-none
returns-in_default-split_id_bytes-clause-none c = λ e more name id same.
    let after = after_mode c.args.text.now c.in-Some.after.now c.in-Some.mode e more c.in-Some.ensures.found same in
    let parts = same_until 0 c.in-Some-split_at_zero.name.now e.name c.in-Some-split_at_zero.last.now (e.id ++ more) c.in-Some-split_at_zero.ensures.first name.no_zero (sym c.in-Some-split_at_zero.ensures.found ∙ after) in
    c.in_default-split_id_bytes.ensures.none e.id more id parts.1

pub returns-clause-found : goal.returns-clause-found
returns-clause-found c =
    let found = c.in-Some-split_id_bytes.found in
    let name = c.in-Some-split_at_zero.name.now in
    c.in-Some.ensures.found ∙ ap (λ (r : List ℕ). mode_text c.in-Some.mode ++ 32 ∷ r) (c.in-Some-split_at_zero.ensures.found
    ∙ ap (λ (r : List ℕ). name ++ 0 ∷ r) c.in-Some-split_id_bytes.ensures.found) ∙ sym (entry_then (entry_of c.in-Some.mode name found.0) found.1.now)
