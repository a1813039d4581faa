use Rattle.std.proofs.Common.{◌∷◌, ◌++◌, [], codes}
use Rattle.rsl_chain.specs.Drafts.{author_lines, parent_lines}
use Rattle.rsl_chain.specs.Grammar.{tree_line}
use Rattle.rsl_chain.proofs.DraftLemmas.{before_line, before_lines, last_line}
use Rattle.rsl_chain.proofs.drafts.append_head.Goals as goal

pub returns-clause-added : goal.returns-clause-added
returns-clause-added c =
    before_line c.args.text.now c.append_line.new.text c.append_line-3.new.text tree_line (parent_lines c.args.parent.now ++ author_lines c.args.author.now) c.in_ok-append_line.ensures
    (before_lines c.append_line.new.text c.append_parent.new.text c.append_line-3.new.text (parent_lines c.args.parent.now) (author_lines c.args.author.now) c.in_ok-append_parent.ensures.added
    (before_line c.append_parent.new.text c.append_line-2.new.text c.append_line-3.new.text (codes "author " ++ c.args.author.now) ((codes "committer " ++ c.args.author.now) ∷ []) c.in_ok-append_line-2.ensures
    (last_line c.append_line-2.new.text c.append_line-3.new.text (codes "committer " ++ c.args.author.now) c.in_ok-append_line-3.ensures)))
