use Rattle.std.proofs.Common.{◌≡◌, ℕ, List, sym, ap, ◌∙◌}
use Rattle.octets.specs.Content.{with_front}
use Rattle.desk_messages.proofs.HeadAnswers.{joined_front}
use Rattle.desk_messages.proofs.reading.read_asked.Goals as goal

pub returns-in-Some-clause-front : goal.returns-in-Some-clause-front
returns-in-Some-clause-front g c =
    let before = g.S.Source.left c.args.source.now in
    let mid = g.S.Source.left c.read_head.new.source in
    let begun = c.split_at.result.0.now in
    let read : before ≡ with_front begun mid = c.in-Ok.ensures.read ∙ ap (λ (b : List ℕ). with_front b mid) (sym c.split_at.ensures.front) in
    joined_front begun before mid (g.S.Source.left c.ask.new.source) read c.ask.ensures.front
