-- A connection: one request is read, and one reply written.
use Rattle.std.specs.Prelude.{◌≡◌, ◌⊎◌, [], ℕ, List, Option, IfSome}
use Rattle.octets.specs.Causes.{one_more}
use Rattle.octets.specs.Content.{GainsPart, with_end}
use Rattle.edge_io.specs.declared.sinks.Sink as sink
use Rattle.edge_io.specs.declared.sources.Source as source
use Rattle.links.specs.declared.link.Link.{Link}
use Rattle.desk_turns.specs.Seats.{Sitting}
use Rattle.desk_messages.specs.Texts.{reply_text}
use Rattle.desk_messages.specs.Asking.{Asks}
use Rattle.desk_messages.specs.Reading.{HasFront, IsUnread, Reads}
use Rattle.desk_messages.specs.declared.requests.Asked.{Asked}
use Rattle.desk_messages.specs.declared.requests.Asked.TheVariants as ask
use Rattle.desk_http.specs.ServingAnswers.{Answers}
use Rattle.desk_http.specs.declared.connections.End.{End}
use Rattle.desk_http.specs.declared.connections.End.TheVariants.{LinkFailed, Replied, Silent}
use Rattle.desk_http.specs.declared.serving_desks.Serves as serves

-- the whole text of the reply was written; or a front of it, and not all, and the sink counted a fault
abbrev pub Writes : {K : Type 0} → sink.Ghosts K → ℕ → List ℕ → K → K → End → Type 0
Writes sink_of code body before after (Replied said) =
    (said ≡ code) × (sink_of.contents after ≡ with_end (sink_of.contents before) (reply_text code body))
    × (sink_of.faults after ≡ sink_of.faults before)
Writes sink_of code body before after Silent = ⊥
Writes sink_of code body before after LinkFailed =
    GainsPart (sink_of.contents before) (sink_of.contents after) (reply_text code body)
    × (sink_of.faults after ≡ one_more (sink_of.faults before))

-- This is what was asked by the bytes that were read: by all that the source had to give, and in any case by those that
-- were read, which are a front of them; or memory was wanting, or the source failed.
pub record IsRead (left left_now : Option (List ℕ)) (asked : Asked) : Type 0 where
  pub is : IsUnread asked ⊎ Reads [] left left_now asked
  pub whole : IsUnread asked ⊎ IfSome left (λ bytes. Asks bytes asked)
  pub front : HasFront left left_now

module _ {D K : Type 0} (desk_of : serves.Ghosts D) (sink_of : sink.Ghosts K) (desk : D) where
  -- one reply was written to what was asked
  pub record Replies (asked : Asked) (old new : Sitting) (before after : K) (end : End) : Type 0 where
    pub code : ℕ
    pub body : List ℕ
    pub answers : Answers desk_of desk old new code body asked
    pub writes : Writes sink_of code body before after end

  -- nothing was written, and the seat stayed as it was
  pub record IsPassed (wanted : End) (old new : Sitting) (before after : K) (end : End) : Type 0 where
    pub end_is : end ≡ wanted
    pub same_seat : new ≡ old
    pub same_sink : after ≡ before

  -- what was asked is answered, where something was
  abbrev pub Answered : Asked → Sitting → Sitting → K → K → End → Type 0
  Answered ask.Tip = Replies ask.Tip
  Answered (ask.Verify name) = Replies (ask.Verify name)
  Answered ask.Stream = Replies ask.Stream
  Answered (ask.Push body) = Replies (ask.Push body)
  Answered (ask.Refused why) = Replies (ask.Refused why)
  Answered ask.Memory = Replies ask.Memory
  Answered ask.Silent = IsPassed Silent
  Answered ask.LinkFailed = IsPassed LinkFailed

module _ {D S K : Type 0} (desk_of : serves.Ghosts D) (source_of : source.Ghosts S) (sink_of : sink.Ghosts K) (desk : D)
  where
    -- a request was read, and one reply written to it
    pub record IsServed (old new : Sitting) (link link_now : Link S K) (end : End) : Type 0 where
      pub asked : Asked
      pub read : IsRead (source_of.left link.source) (source_of.left link_now.source) asked
      pub quiet : source_of.faults link_now.source ≡ source_of.faults link.source
      pub replies : Replies desk_of sink_of desk asked old new link.sink link_now.sink end

    -- the input ended before its first byte
    pub record IsSilent (old new : Sitting) (link link_now : Link S K) : Type 0 where
      pub read : IsRead (source_of.left link.source) (source_of.left link_now.source) ask.Silent
      pub quiet : source_of.faults link_now.source ≡ source_of.faults link.source
      pub same_seat : new ≡ old
      pub same_sink : link_now.sink ≡ link.sink

    -- the source failed before the request was read
    pub record IsUnanswered (old new : Sitting) (link link_now : Link S K) : Type 0 where
      pub front : HasFront (source_of.left link.source) (source_of.left link_now.source)
      pub failed : source_of.faults link_now.source ≡ one_more (source_of.faults link.source)
      pub same_seat : new ≡ old
      pub same_sink : link_now.sink ≡ link.sink

    -- what each end of a connection means
    abbrev pub Ends : Sitting → Sitting → Link S K → Link S K → End → Type 0
    Ends old new link link_now (Replied code) = IsServed old new link link_now (Replied code)
    Ends old new link link_now Silent = IsSilent old new link link_now
    Ends old new link link_now LinkFailed =
        IsUnanswered old new link link_now ⊎ IsServed old new link link_now LinkFailed
