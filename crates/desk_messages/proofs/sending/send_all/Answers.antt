use Rattle.std.proofs.Common.{◌≡◌, List, ℕ, ◌++◌, take, sym, ap, ◌∙◌, append_assoc}
use Rattle.std.proofs.lemmas.List.{take-append-drop}
use Rattle.octets.specs.Content.{with_end}
use Rattle.edge_io.proofs.Parts.{with_ends}
use Rattle.desk_messages.proofs.sending.send_all.Goals as goal

pub pieces-preserved : goal.pieces-preserved
pieces-preserved g c =
    let before = c.pieces.invariant.gained in
    let front : List ℕ = before.0 in
    let rest : List ℕ = c.pieces.rest.now in
    let count = c.in_ok-count.count in
    let ok = c.in_ok-count.ensures in
    let whole : rest ≡ take count rest ++ c.split_at.result.1.now = sym (take-append-drop count rest) ∙ ap (λ (after : List ℕ). take count rest ++ after) (sym c.split_at.ensures.back) in
    record {
      gained = (
        front ++ take count rest,
        before.1 ∙ ap (λ (r : List ℕ). front ++ r) whole ∙ sym (append_assoc front (take count rest) c.split_at.result.1.now),
        ok.bytes ∙ ap (λ (told : _). with_end told (take count rest)) before.2 ∙ with_ends (g.P.Peer.given c.args.peer.now) front (take count rest),
      );
      unread = ok.unread ∙ c.pieces.invariant.unread;
      port = ok.port ∙ c.pieces.invariant.port;
      quiet = ok.cause.is ∙ c.pieces.invariant.quiet;
    }
