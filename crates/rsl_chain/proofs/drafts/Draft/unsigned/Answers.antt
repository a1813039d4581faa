use Rattle.std.proofs.Common.{◌∷◌, []}
use Rattle.rsl_chain.specs.Drafts.{body_lines, head_lines}
use Rattle.rsl_chain.proofs.DraftLemmas.{before_line, before_lines}
use Rattle.rsl_chain.proofs.Written.{draft_is_read}
use Rattle.rsl_chain.proofs.drafts.Draft.unsigned.Goals as goal

pub returns-clause-reads_back : goal.returns-clause-reads_back
returns-clause-reads_back c =
    let d = c.args.self.now in
    let now = c.append_body.new.text in
    draft_is_read d now
    (before_lines [] c.append_head.new.text now (head_lines d.parent d.author) ([] ∷ body_lines d.body d.number) (rw (c.new-text.ensures, c.as_slice.ensures) at c.in_ok-append_head.ensures.added)
    (before_line c.append_head.new.text c.append_line.new.text now [] (body_lines d.body d.number) c.in_ok-append_line.ensures c.in_ok-append_body.ensures.added))
    (c.in_ok-append_head.ensures.valid, c.in_ok-append_body.ensures.valid)
