use Rattle.std.proofs.Common.{ap, sym, ◌∙◌, ◌++◌, List, ℕ}
use Rattle.rsl_chain.specs.Drafts.{cut, joined}
use Rattle.rsl_chain.proofs.DraftLemmas.{message_is}
use Rattle.rsl_chain.proofs.drafts.append_message.Goals as goal

pub returns-clause-added : goal.returns-clause-added
returns-clause-added c =
    message_is c.args.text.now c.append_line.new.text c.append_pieces.new.text c.append_line-2.new.text c.args.message.now (sym c.is_empty.ensures ∙ c.if-is_empty.false)
    c.in_ok-append_line.ensures
    (c.in_ok-append_pieces.ensures ∙ ap (λ (t : List ℕ). c.append_line.new.text ++ joined (cut 64 t)) (c.as_bytes.ensures.value ∙ c.in-Ok.ensures.text))
    c.in_ok-append_line-2.ensures
