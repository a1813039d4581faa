use Rattle.std.proofs.Common.{List, ℕ, ◌++◌, ap, ◌∙◌}
use Rattle.git_object.proofs.TreeLemmas.{entry_added}
use Rattle.git_object.proofs.tree_entries.append_entry.Goals as goal

pub returns-clause-added : goal.returns-clause-added
returns-clause-added c =
    entry_added c.args.text.now c.args.entry.now c.append.new.self c.append-2.new.self c.append-3.new.self c.append-4.new.self c.append-5.new.self
    (c.in_ok-append.ensures.added ∙ ap (λ (word : List ℕ). c.args.text.now ++ word) c.text.ensures) c.in_ok-append-2.ensures.added
    (c.in_ok-append-3.ensures.added ∙ ap (λ (name : List ℕ). c.append-2.new.self ++ name) c.as_slice.ensures) c.in_ok-append-4.ensures.added
    (c.in_ok-append-5.ensures.added ∙ ap (λ (id : List ℕ). c.append-4.new.self ++ id) c.as_bytes-id.ensures.bytes)
