-- Links served one after another.
use Rattle.std.proofs.Common.{◌≡◌, ◌+◌, ◌++◌, ◌∷◌, [], ℕ, List, refl, sym, ap, subst, ◌∙◌, append_assoc, append-nil, length-append}
use Rattle.std.specs.Prelude.{Option, Some, None}
use Rattle.edge_io.specs.declared.sinks.Sink as sink
use Rattle.edge_io.specs.declared.sources.Source as source
use Rattle.links.specs.Doors.{Gives, with_first, with_last}
use Rattle.links.specs.declared.link.Link.{Link}
use Rattle.desk_turns.specs.Seats.{Sitting}
use Rattle.desk_http.specs.Connections.{Ends}
use Rattle.desk_http.specs.Workers.{AreServed, DoorWays, HasServed, ServesQuietly, with_links}
use Rattle.desk_http.specs.declared.connections.End.{End}
use Rattle.desk_http.specs.declared.serving_desks.Serves as serves

with_none_first : {X : Type 0} (told : Option (List X)) → told ≡ with_first [] told
with_none_first None = refl
with_none_first (Some links) = refl

with_none_links : {X : Type 0} (told : Option (List X)) → told ≡ with_links told []
with_none_links None = refl
with_none_links (Some links) = ap Some (sym (append-nil links))

with_firsts : {X : Type 0} (a b : List X) (told : Option (List X)) → with_first a (with_first b told) ≡ with_first (a ++ b) told
with_firsts a b None = refl
with_firsts a b (Some rest) = ap Some (sym (append_assoc a b rest))

with_last_links : {X : Type 0} (told : Option (List X)) (a : List X) (x : X) → with_last (with_links told a) x ≡ with_links told (a ++ x ∷ [])
with_last_links None a x = refl
with_last_links (Some before) a x = ap Some (append_assoc before a (x ∷ []))

module _ {D E S K : Type 0} (desk_of : serves.Ghosts D) (source_of : source.Ghosts S) (sink_of : sink.Ghosts K) (door_of : DoorWays E S K) (desk : D) where
  served_then : (links links_now : List (Link S K)) (link link_now : Link S K) (old mid new : Sitting) (end : End) → AreServed desk_of source_of sink_of door_of desk links links_now old mid
      → Ends desk_of source_of sink_of desk mid new link link_now end → AreServed desk_of source_of sink_of door_of desk (links ++ link ∷ []) (links_now ++ link_now ∷ []) old new
  served_then [] [] link link_now old mid new end same ends = (new, end, subst (λ (s : Sitting). Ends desk_of source_of sink_of desk s new link link_now end) same ends, refl)
  served_then (x ∷ xs) (y ∷ ys) link link_now old mid new end served ends =
      (served.0, served.1, served.2, served_then xs ys link link_now served.0 mid new end served.3 ends)
  served_then [] (y ∷ ys) link link_now old mid new end served ends = absurd served
  served_then (x ∷ xs) [] link link_now old mid new end served ends = absurd served

  -- before the first
  pub none_served : (door : E) (seat : Sitting) → ServesQuietly desk_of source_of sink_of door_of desk 0 door door seat seat
  none_served door seat = record {
    has_served = record {
      given = [];
      handed = [];
      took = with_none_first (door_of.waiting door);
      back = with_none_links (door_of.back door);
      served = refl;
      counted = refl;
    };
    quiet = refl;
  }

  -- the door gave nothing more
  pub gave_none : (count : ℕ) (before mid after : E) (old new : Sitting) → HasServed desk_of source_of sink_of door_of desk count before mid old new
      → door_of.waiting after ≡ door_of.waiting mid → door_of.back after ≡ door_of.back mid
      → HasServed desk_of source_of sink_of door_of desk count before after old new
  gave_none count before mid after old new has waiting back = record {
    given = has.given;
    handed = has.handed;
    took = has.took ∙ ap (with_first has.given) (sym waiting);
    back = back ∙ has.back;
    served = has.served;
    counted = has.counted;
  }

  -- one more
  pub one_more_served : (count : ℕ) (before mid given after : E) (old seat new : Sitting) (link link_now : Link S K) (end : End)
      → ServesQuietly desk_of source_of sink_of door_of desk count before mid old seat
      → Gives (Some link) (door_of.waiting mid) (door_of.waiting given) → door_of.back given ≡ door_of.back mid → door_of.faults given ≡ door_of.faults mid
      → Ends desk_of source_of sink_of desk seat new link link_now end
      → door_of.back after ≡ with_last (door_of.back given) link_now → door_of.waiting after ≡ door_of.waiting given → door_of.faults after ≡ door_of.faults given
      → ServesQuietly desk_of source_of sink_of door_of desk (count + 1) before after old new
  one_more_served count before mid given after old seat new link link_now end has gives back quiet ends back_now waiting quiet_now =
      let was = has.has_served in record {
        has_served = record {
          given = was.given ++ link ∷ [];
          handed = was.handed ++ link_now ∷ [];
          took = was.took ∙ ap (with_first was.given) (gives ∙ ap (with_first (link ∷ [])) (sym waiting)) ∙ with_firsts was.given (link ∷ []) (door_of.waiting after);
          back = back_now ∙ ap (λ (told : Option (List (Link S K))). with_last told link_now) (back ∙ was.back) ∙ with_last_links (door_of.back before) was.handed link_now;
          served = served_then was.given was.handed link link_now old seat new end was.served ends;
          counted = ap (λ (n : ℕ). n + 1) was.counted ∙ sym (length-append was.given (link ∷ []));
        };
        quiet = quiet_now ∙ quiet ∙ has.quiet;
      }
