use Rattle.std.proofs.Common.{◌≡◌, ◌∙◌, ◌+◌, ◌%◌, ◌<◌, ap, sym, subst, List, ℕ}
use Rattle.std.specs.Prelude.{Some}
use Rattle.demo.specs.Journals.{Uses, uses_of, with_use}
use Rattle.demo.specs.Histories.{draft_of, main_name, signed_entry}
use Rattle.demo.proofs.KeyUses.{has_leaf}
use Rattle.demo.proofs.NextSteps.{uses_next}
use Rattle.demo.proofs.histories.record_change.Goals as goal

pub signed_entry-requires-clause-free : goal.signed_entry-requires-clause-free
signed_entry-requires-clause-free c =
    subst (λ (u : Uses). uses_of ((c.args.done + 1) % 3) u < 1024) (sym c.requires.keys) (has_leaf ((c.args.done + 1) % 3) c.args.done c.requires.few)

pub returns-clause-keys : goal.returns-clause-keys
returns-clause-keys c = c.in_ok-entry.ensures.next ∙ ap (with_use ((c.args.done + 1) % 3)) c.requires.keys ∙ sym (uses_next c.args.done)

pub returns-clause-entry : goal.returns-clause-entry
returns-clause-entry c =
    let draft : c.in_ok-draft.draft ≡ draft_of (c.args.done + 1 + 1) (Some c.args.tip) (c.args.done + 1) main_name c.args.main =
    c.in_ok-draft.ensures ∙ ap (λ (n : List ℕ). draft_of (c.args.done + 1 + 1) (Some c.args.tip) (c.args.done + 1) n c.args.main) c.in_ok-name.ensures in
    c.in_ok-entry.ensures.entry ∙ (λ j. signed_entry ((c.args.done + 1) % 3) (uses_of ((c.args.done + 1) % 3) (c.requires.keys j)) (draft j))
