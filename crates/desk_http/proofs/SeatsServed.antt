-- What was asked of a desk's seats, and how serving ended, out of how workers served at it.
use Rattle.std.proofs.Common.{◌≡◌, ◌<◌, ◌+◌, ◌++◌, inl, inr, ◌∷◌, [], ℕ, zero, suc, ◌≤◌, List, length, length-append, take, drop, refl, sym, subst, get_or, arith}
use Rattle.std.specs.Prelude.{All, Option, Some, None, slice_get}
use Rattle.std.specs.Option.{IsSomeAnd}
use Rattle.edge_io.specs.declared.sinks.Sink as sink
use Rattle.edge_io.specs.declared.sources.Source as source
use Rattle.links.specs.declared.link.Link.{Link}
use Rattle.desk_turns.specs.Seats.{AreNew, Sitting, TurnId}
use Rattle.desk_turns.specs.Legal.{IsLegal}
use Rattle.desk_messages.specs.declared.requests.Asked.{Asked}
use Rattle.desk_http.specs.Connections.{Ends, IsServed}
use Rattle.desk_http.specs.Workers as workers
use Rattle.desk_http.specs.declared.connections.End.{End}
use Rattle.desk_http.specs.declared.connections.End.TheVariants.{LinkFailed, Replied, Silent}
use Rattle.desk_http.specs.declared.serving_desks.Serves as serves
use Rattle.desk_http.specs.declared.workers.Worker.{Worker}
use Rattle.desk_http.specs.declared.workers.WorkerEnd.{WorkerEnd}
use Rattle.desk_http.specs.declared.workers.WorkerEnd.TheVariants as worker_end
use Rattle.desk_http.specs.Served.{AreReplied, AreServed, HasServed, IsFirst}

module _ {E S K : Type 0} (desk_of : serves.Ghosts TurnId) (source_of : source.Ghosts S) (sink_of : sink.Ghosts K) (door_of : workers.DoorWays E S K)
    (desk : TurnId) where
  joined : (first more : List Asked) (old mid new : Sitting) → AreReplied desk_of desk first old mid → AreReplied desk_of desk more mid new
      → AreReplied desk_of desk (first ++ more) old new
  joined [] more old mid new same rest = subst (λ (s : Sitting). AreReplied desk_of desk more s new) same rest
  joined (x ∷ xs) more old mid new first rest = (first.0, first.1, joined xs more first.0 mid new first.2 rest)

  -- so many connections asked for this, which had replies, one after another
  record Asks (count : ℕ) (old new : Sitting) : Type 0 where
    pub asked : List Asked
    pub replied : AreReplied desk_of desk asked old new
    pub few : length asked ≤ count

  one : (old new : Sitting) (link link_now : Link S K) (end : End) → IsServed desk_of source_of sink_of desk old new link link_now end → Asks 1 old new
  one old new link link_now end is = record {
    asked = is.asked ∷ [];
    replied = (new, record { code = is.replies.code; body = is.replies.body; answers = is.replies.answers }, refl);
    few = omega arith;
  }

  none : (old new : Sitting) → new ≡ old → Asks 1 old new
  none old new same = record { asked = []; replied = same; few = omega arith }

  ended : (old new : Sitting) (link link_now : Link S K) (end : End) → Ends desk_of source_of sink_of desk old new link link_now end → Asks 1 old new
  ended old new link link_now (Replied code) is = one old new link link_now (Replied code) is
  ended old new link link_now Silent is = none old new is.same_seat
  ended old new link link_now LinkFailed (inl is) = none old new is.same_seat
  ended old new link link_now LinkFailed (inr is) = one old new link link_now LinkFailed is

  all_asked : (links links_now : List (Link S K)) (old new : Sitting) → workers.AreServed desk_of source_of sink_of door_of desk links links_now old new → Asks (length links) old new
  all_asked [] [] old new same = record { asked = []; replied = same; few = omega arith }
  all_asked (x ∷ xs) (y ∷ ys) old new served =
      let first = ended old served.0 x y served.1 served.2 in
      let rest = all_asked xs ys served.0 new served.3 in record {
        asked = first.asked ++ rest.asked;
        replied = joined first.asked rest.asked old served.0 new first.replied rest.replied;
        few = omega (arith, first.few, rest.few, length-append first.asked rest.asked);
      }
  all_asked [] (y ∷ ys) old new served = absurd served
  all_asked (x ∷ xs) [] old new served = absurd served

  served_of : (count : ℕ) (before after : E) (old new : Sitting) → workers.HasServed desk_of source_of sink_of door_of desk count before after old new → Asks count old new
  served_of count before after old new has =
      let all = all_asked has.given has.handed old new has.served in
      record { asked = all.asked; replied = all.replied; few = omega (arith, all.few, has.counted) }

  module _ (most : ℕ) (before after : E) (old new : Sitting) (first : IsFirst desk old) where
    -- a worker whose seat was new served at the desk, and ended so
    ended_so : (end : Option WorkerEnd) → IsSomeAnd end (workers.WorkerEnds desk_of source_of sink_of door_of desk most before after old new)
        → HasServed desk_of desk most new end
    ended_so (Some (worker_end.Served count)) is =
        let asks = served_of count before after old new is.1.has_served in
        record { first = old; was = first; asked = asks.asked; replied = asks.replied; ended = (is.0, asks.few) }
    ended_so (Some (worker_end.Closed count)) is =
        let asks = served_of count before after old new is.1.has_served in
        record { first = old; was = first; asked = asks.asked; replied = asks.replied; ended = (is.0, asks.few) }
    ended_so (Some (worker_end.DoorFailed count)) is =
        let asks = served_of count before after old new is.1 in
        record { first = old; was = first; asked = asks.asked; replied = asks.replied; ended = (is.0, asks.few) }
    ended_so None is = absurd is

  pub has_served : (most : ℕ) (old new : Worker E) → IsFirst desk old.seat → workers.IsServed desk_of source_of sink_of door_of desk most old new
      → HasServed desk_of desk most new.seat new.end
  has_served most old new first is = ended_so most old.door new.door old.seat new.seat first new.end is.ended

slice_get_at : {X : Type 0} (xs : List X) (i : ℕ) (d : X) → i < length xs → slice_get xs i ≡ Some (get_or xs i d)
slice_get_at [] i d lt = absurd (omega arith)
slice_get_at (x ∷ xs) zero d lt = refl
slice_get_at (x ∷ xs) (suc i) d lt = slice_get_at xs i d (omega arith)

-- seats that were just given are each new
pub all_first : (desk : TurnId) (seats : List Sitting) → AreNew IsLegal desk seats → All (IsFirst desk) seats
all_first desk seats new = λ i d lt. record { number = i + 1; new = new i (get_or seats i d) (slice_get_at seats i d lt) }

-- ---- what a slice leaves of a list

take_short : {X : Type 0} (n : ℕ) (xs : List X) → length (take n xs) ≤ n
take_short zero xs = omega arith
take_short (suc n) [] = omega arith
take_short (suc n) (x ∷ xs) = omega (arith, take_short n xs)

whole_at : {X : Type 0} (xs : List X) (i : ℕ) (d : X) → get_or (take (length xs) xs) i d ≡ get_or xs i d
whole_at [] i d = refl
whole_at (x ∷ xs) zero d = refl
whole_at (x ∷ xs) (suc i) d = whole_at xs i d

over_at : {X : Type 0} (now old : List X) (i : ℕ) (d : X) → i < length old
    → get_or (take (length old) (now ++ drop (length now) old)) i d ≡ get_or now i (get_or old i d)
over_at [] old i d lt = whole_at old i d
over_at (x ∷ xs) [] i d lt = absurd (omega arith)
over_at (x ∷ xs) (y ∷ ys) zero d lt = refl
over_at (x ∷ xs) (y ∷ ys) (suc i) d lt = over_at xs ys i d (omega arith)

module _ {E S K : Type 0} (desk_of : serves.Ghosts TurnId) (source_of : source.Ghosts S) (sink_of : sink.Ghosts K) (door_of : workers.DoorWays E S K)
    (desk : TurnId) (most : ℕ) where
  abbrev EachServed : List (Worker E) → List (Worker E) → Type 0
  EachServed old now = (i : ℕ) (d : Worker E) → i < length old → workers.IsServed desk_of source_of sink_of door_of desk most (get_or old i d) (get_or now i d)

  left_served : (old now : List (Worker E)) → All (λ w. IsFirst desk w.seat) old → EachServed old now
      → All (λ w. HasServed desk_of desk most w.seat w.end) (take (length old) (now ++ drop (length now) old))
  left_served old now first each = λ i d lt.
      let within : i < length old = omega (arith, lt, take_short (length old) (now ++ drop (length now) old)) in
      let e = get_or old i d in
      subst (λ (w : Worker E). HasServed desk_of desk most w.seat w.end) (sym (over_at now old i d within))
      (has_served desk_of source_of sink_of door_of desk most (get_or old i e) (get_or now i e) (first i e within) (each i e within))

-- all of them served at the desk
pub all_served : {E S K : Type 0} {desk_of : serves.Ghosts TurnId} {source_of : source.Ghosts S} {sink_of : sink.Ghosts K}
    {door_of : workers.DoorWays E S K} {desk : TurnId} {most : ℕ}
    (old lent now : List (Worker E)) (n : ℕ) → lent ≡ old → n ≡ length old → All (λ w. IsFirst desk w.seat) old
    → ((i : ℕ) (d : Worker E) → i < length lent → workers.IsServed desk_of source_of sink_of door_of desk most (get_or lent i d) (get_or now i d))
    → AreServed desk_of most (take n (now ++ drop (length now) old))
all_served {E = E} {desk_of = desk_of} {source_of = source_of} {sink_of = sink_of} {door_of = door_of} {desk = desk} {most = most}
    old lent now n same count first each = inr (record {
      desk = desk;
      each = subst (λ (m : ℕ). All (λ w. HasServed desk_of desk most w.seat w.end) (take m (now ++ drop (length now) old))) (sym count)
          (left_served desk_of source_of sink_of door_of desk most old now first
          (subst (λ (xs : List (Worker E)). EachServed desk_of source_of sink_of door_of desk most xs now) same each));
    })
