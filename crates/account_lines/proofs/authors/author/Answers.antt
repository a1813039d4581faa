use Rattle.std.proofs.Common.{ap, sym, ◌∙◌}
use Rattle.std.specs.Option.{option_copied}
use Rattle.account_lines.specs.Authors.{author_of, or_later}
use Rattle.account_lines.proofs.Reading.{author_more, author_none}
use Rattle.account_lines.proofs.authors.author.Goals as goal

pub returns-in-Some-strip : goal.returns-in-Some-strip
returns-in-Some-strip c =
    sym (ap (λ o. or_later o (author_of c.in-Some.more.now)) (sym c.strip.ensures ∙ ap option_copied c.in-Some-strip.is))
    ∙ sym (author_more c.in-Some.line.now c.in-Some.more.now c.lines.rest.now c.in-Some.ensures.found c.in-Some.ensures.first) ∙ c.lines.invariant

pub lines-preserved : goal.lines-preserved
lines-preserved c =
    sym (author_more c.in-Some.line.now c.in-Some.more.now c.lines.rest.now c.in-Some.ensures.found c.in-Some.ensures.first
    ∙ ap (λ o. or_later o (author_of c.in-Some.more.now)) (sym c.strip.ensures ∙ ap option_copied c.in_default-strip.is)) ∙ c.lines.invariant

pub returns : goal.returns
returns c = sym (author_none c.lines.rest.now c.in_default.ensures.none) ∙ c.lines.invariant
