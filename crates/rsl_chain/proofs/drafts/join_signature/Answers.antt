use Rattle.std.proofs.Common.{◌≡◌, ◌++◌, List, ℕ, sym, ap, ◌∙◌, append_assoc}
use Rattle.rsl_chain.specs.Drafts.{ended, signature_line, signed_text_of, with_line_in}
use Rattle.rsl_chain.specs.declared.words.SignatureLine.{SignatureLine}
use Rattle.rsl_chain.proofs.Written.{joined_is_read}
use Rattle.rsl_chain.proofs.drafts.join_signature.Goals as goal

pub returns-clause-reads_back : goal.returns-clause-reads_back
returns-clause-reads_back c =
    let s : SignatureLine = record { signer = c.args.key.now; signature = c.args.signature.now } in
    let line = signature_line s in
    let rest = c.in_ok-rest.rest.now in
    let joins : c.append.new.self ≡ signed_text_of c.args.unsigned.now s =
    c.in_ok-append.ensures.added ∙ ap (λ (t : List ℕ). t ++ rest) c.in_ok-append_signature.ensures.added ∙ append_assoc c.append_front.new.text (ended line) rest
    ∙ sym (c.in_ok-rest.ensures line) ∙ ap (λ (t : List ℕ). t ++ with_line_in line c.args.unsigned.now) c.new-text.ensures in
    joined_is_read s c.args.unsigned.now c.append.new.self joins c.append_signature.ensures.valid.0 c.append_signature.ensures.valid.1
