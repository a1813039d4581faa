use Rattle.std.proofs.Common.{◌∷◌, ◌++◌, [], List, ℕ, codes, map}
use Rattle.rsl_chain.specs.Drafts.{entry_line, message_lines, number_line, skip_line}
use Rattle.rsl_chain.proofs.DraftLemmas.{before_line, before_lines}
use Rattle.rsl_chain.proofs.drafts.append_annotation.Goals as goal

pub returns-clause-added : goal.returns-clause-added
returns-clause-added c =
    let now = c.append_message.new.text in
    let number : List ℕ = number_line c.args.number in
    let skip : List ℕ = skip_line c.args.skip in
    let message : List (List ℕ) = message_lines c.args.message.now in
    let ids : List (List ℕ) = map entry_line c.args.ids.now in
    before_line c.args.text.now c.append_line.new.text now (codes "RSL Annotation Entry") ([] ∷ (ids ++ (skip ∷ number ∷ message))) c.in_ok-append_line.ensures
    (before_line c.append_line.new.text c.append_line-2.new.text now [] (ids ++ (skip ∷ number ∷ message)) c.in_ok-append_line-2.ensures
    (before_lines c.append_line-2.new.text c.append_ids.new.text now ids (skip ∷ number ∷ message) c.in_ok-append_ids.ensures.added
    (before_line c.append_ids.new.text c.append_skip.new.text now skip (number ∷ message) c.in_ok-append_skip.ensures
    (before_line c.append_skip.new.text c.append_number.new.text now number message c.in_ok-append_number.ensures c.in_ok-append_message.ensures.added))))
