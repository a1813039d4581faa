use Rattle.std.proofs.Common.{List, ℕ, ◌++◌, ap, ◌∙◌}
use Rattle.git_object.proofs.LineLemmas.{id_line_added}
use Rattle.git_object.proofs.header_lines.append_id_line.Goals as goal

pub returns-clause-added : goal.returns-clause-added
returns-clause-added c =
    id_line_added c.args.text.now c.args.word.now c.args.id.now c.append.new.self c.append-2.new.self c.append-3.new.self c.in_ok-append.ensures.added
    (c.in_ok-append-2.ensures.added ∙ ap (λ (digits : List ℕ). c.append.new.self ++ digits) c.to_hex.ensures) c.in_ok-append-3.ensures.added
