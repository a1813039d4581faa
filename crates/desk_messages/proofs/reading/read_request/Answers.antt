use Rattle.std.proofs.Common.{inl, inr}
use Rattle.desk_messages.proofs.Following.{all_asked}
use Rattle.desk_messages.proofs.reading.read_request.Goals as goal

pub returns-clause-whole : goal.returns-clause-whole
returns-clause-whole g c =
    elim c.read_asked.ensures.asked [
      | inl unread ↦ inl unread
      | inr reads ↦ inr (all_asked (g.S.Source.left c.args.source.now) (g.S.Source.left c.read_asked.new.source) c.read_asked.result reads)
    ]
