use Rattle.std.proofs.Common.{sym, ◌∙◌}
use Rattle.std.specs.Option.{option_copied}
use Rattle.account_lines.proofs.Words.{last_word, next_word}
use Rattle.account_lines.proofs.times.last_but_one.Goals as goal

pub words-preserved : goal.words-preserved
words-preserved c =
    sym (next_word (option_copied c.words.last) c.in-Some.word.now c.in-Some.more.now c.words.rest.now c.in-Some.ensures.found c.in-Some.ensures.first)
    ∙ c.words.invariant

pub returns : goal.returns
returns c = sym (last_word (option_copied c.words.last) c.words.rest.now c.in_default.ensures.none) ∙ c.words.invariant
