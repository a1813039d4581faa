-- How a connection ended, of how its request was read and answered.
use Rattle.std.proofs.Common.{◌≡◌, inl, inr, sym, subst}
use Rattle.octets.specs.Causes.{count_after}
use Rattle.edge_io.specs.declared.sinks.Sink as sink
use Rattle.edge_io.specs.declared.sources.Source as source
use Rattle.links.specs.declared.link.Link.{Link}
use Rattle.desk_turns.specs.Seats.{Sitting}
use Rattle.desk_messages.specs.Reading.{asked_as, is_link_fault}
use Rattle.desk_messages.specs.declared.requests.Asked.{Asked}
use Rattle.desk_messages.specs.declared.requests.Asked.TheVariants as ask
use Rattle.desk_http.specs.Connections.{Answered, Ends, IsRead, Replies}
use Rattle.desk_http.specs.declared.connections.End.{End}
use Rattle.desk_http.specs.declared.connections.End.TheVariants.{LinkFailed, Replied, Silent}
use Rattle.desk_http.specs.declared.serving_desks.Serves as serves

module _ {D S K : Type 0} (desk_of : serves.Ghosts D) (source_of : source.Ghosts S) (sink_of : sink.Ghosts K) (desk : D) (old new : Sitting) (link link_now : Link S K) where
  served : (asked : Asked) (end : End) → IsRead (source_of.left link.source) (source_of.left link_now.source) asked
      → source_of.faults link_now.source ≡ source_of.faults link.source
      → Replies desk_of sink_of desk asked old new link.sink link_now.sink end → Ends desk_of source_of sink_of desk old new link link_now end
  served asked (Replied code) read quiet replies = record { asked = asked; read = read; quiet = quiet; replies = replies }
  served asked Silent read quiet replies = absurd replies.writes
  served asked LinkFailed read quiet replies = inr (record { asked = asked; read = read; quiet = quiet; replies = replies })

  pub ended : (asked : Asked) (end : End) → IsRead (source_of.left link.source) (source_of.left link_now.source) asked
      → source_of.faults link_now.source ≡ count_after is_link_fault (source_of.faults link.source) (asked_as asked)
      → Answered desk_of sink_of desk asked old new link.sink link_now.sink end → Ends desk_of source_of sink_of desk old new link link_now end
  ended ask.Tip end read quiet answered = served ask.Tip end read quiet answered
  ended (ask.Verify name) end read quiet answered = served (ask.Verify name) end read quiet answered
  ended ask.Stream end read quiet answered = served ask.Stream end read quiet answered
  ended (ask.Push body) end read quiet answered = served (ask.Push body) end read quiet answered
  ended (ask.Refused why) end read quiet answered = served (ask.Refused why) end read quiet answered
  ended ask.Memory end read quiet answered = served ask.Memory end read quiet answered
  ended ask.Silent end read quiet answered =
      subst (Ends desk_of source_of sink_of desk old new link link_now) (sym answered.end_is)
      (record { read = read; quiet = quiet; same_seat = answered.same_seat; same_sink = answered.same_sink })
  ended ask.LinkFailed end read quiet answered =
      subst (Ends desk_of source_of sink_of desk old new link link_now) (sym answered.end_is)
      (inl (record { front = read.front; failed = quiet; same_seat = answered.same_seat; same_sink = answered.same_sink }))
