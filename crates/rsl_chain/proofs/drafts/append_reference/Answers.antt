use Rattle.std.proofs.Common.{ap, ◌∙◌, ◌∷◌, ◌++◌, [], List, ℕ, codes}
use Rattle.hex.specs.Hex.{encode_lower}
use Rattle.rsl_chain.specs.Drafts.{ended, number_line}
use Rattle.rsl_chain.proofs.DraftLemmas.{before_line, last_line}
use Rattle.rsl_chain.proofs.drafts.append_reference.Goals as goal

pub returns-clause-added : goal.returns-clause-added
returns-clause-added c =
    let now = c.append_number.new.text in
    let name : List ℕ = codes "ref: " ++ c.args.name.now in
    let target : List ℕ = codes "targetID: " ++ encode_lower c.args.target.now in
    let number : List ℕ = number_line c.args.number in
    before_line c.args.text.now c.append_line.new.text now (codes "RSL Reference Entry") ([] ∷ name ∷ target ∷ number ∷ []) c.in_ok-append_line.ensures
    (before_line c.append_line.new.text c.append_line-2.new.text now [] (name ∷ target ∷ number ∷ []) c.in_ok-append_line-2.ensures
    (before_line c.append_line-2.new.text c.append_line-3.new.text now name (target ∷ number ∷ [])
    (c.in_ok-append_line-3.ensures ∙ ap (λ (t : List ℕ). c.append_line-2.new.text ++ ended (codes "ref: " ++ t)) c.text.ensures.text)
    (before_line c.append_line-3.new.text c.append_id.new.text now target (number ∷ []) c.in_ok-append_id.ensures.added
    (last_line c.append_id.new.text now number c.in_ok-append_number.ensures))))
