-- A worker serves the connections that come in at its door, one after another.
use Rattle.std.specs.Prelude.{◌≡◌, ◌<◌, ◌++◌, ◌∷◌, [], ℕ, List, Option, Some, None, IfSome, length}
use Rattle.std.specs.Option.{IsSomeAnd}
use Rattle.octets.specs.Causes.{one_more}
use Rattle.edge_io.specs.declared.sinks.Sink as sink
use Rattle.edge_io.specs.declared.sources.Source as source
use Rattle.links.specs.Doors.{with_first}
use Rattle.links.specs.declared.link.Link.{Link}
use Rattle.desk_turns.specs.Seats.{Sitting}
use Rattle.desk_http.specs.Connections.{Ends}
use Rattle.desk_http.specs.declared.connections.End.{End}
use Rattle.desk_http.specs.declared.serving_desks.Serves as serves
use Rattle.desk_http.specs.declared.workers.Worker.{Worker}
use Rattle.desk_http.specs.declared.workers.WorkerEnd.{WorkerEnd}
use Rattle.desk_http.specs.declared.workers.WorkerEnd.TheVariants.{Closed, DoorFailed, Served}

-- how a door tells the links that wait and those that it has back, and its count of faults
pub record DoorWays (E S K : Type 0) : Type 0 where
  pub waiting : E → Option (List (Link S K))
  pub back : E → Option (List (Link S K))
  pub faults : E → ℕ

-- the links that are there where these stand after them
abbrev pub with_links : {X : Type 0} → Option (List X) → List X → Option (List X)
with_links None links = None
with_links (Some before) links = Some (before ++ links)

module _ {D E S K : Type 0} (desk_of : serves.Ghosts D) (source_of : source.Ghosts S) (sink_of : sink.Ghosts K)
    (door_of : DoorWays E S K) (desk : D) where
  -- these links were served in this order, each between views of the seat that follow one another, and are these then
  abbrev pub AreServed : List (Link S K) → List (Link S K) → Sitting → Sitting → Type 0
  AreServed [] [] old new = new ≡ old
  AreServed (link ∷ links) (link_now ∷ links_now) old new =
      (mid : Sitting) × (end : End) × Ends desk_of source_of sink_of desk old mid link link_now end
      × AreServed links links_now mid new
  AreServed [] (link_now ∷ links_now) old new = ⊥
  AreServed (link ∷ links) [] old new = ⊥

  -- so many links were given by the door, served, and handed back, in order
  pub record HasServed (count : ℕ) (before after : E) (old new : Sitting) : Type 0 where
    pub given : List (Link S K)
    pub handed : List (Link S K)
    pub took : door_of.waiting before ≡ with_first given (door_of.waiting after)
    pub back : door_of.back after ≡ with_links (door_of.back before) handed
    pub served : AreServed given handed old new
    pub counted : count ≡ length given

  -- that many were, and the door counted no fault
  pub record ServesQuietly (count : ℕ) (before after : E) (old new : Sitting) : Type 0 where
    pub has_served : HasServed count before after old new
    pub quiet : door_of.faults after ≡ door_of.faults before

  -- what each end of a worker means that was to serve so many connections
  abbrev pub WorkerEnds : ℕ → E → E → Sitting → Sitting → WorkerEnd → Type 0
  WorkerEnds most before after old new (Served count) = (count ≡ most) × ServesQuietly count before after old new
  WorkerEnds most before after old new (Closed count) =
      (count < most) × ServesQuietly count before after old new
      × IfSome (door_of.waiting after) (λ waiting. waiting ≡ [])
  WorkerEnds most before after old new (DoorFailed count) =
      (count < most) × HasServed count before after old new
      × (door_of.faults after ≡ one_more (door_of.faults before))

  -- the worker ended so
  pub record IsServed (most : ℕ) (old new : Worker E) : Type 0 where
    pub ended : IsSomeAnd new.end (WorkerEnds most old.door new.door old.seat new.seat)
