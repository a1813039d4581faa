use Rattle.std.proofs.Common.{◌+◌, ◌++◌, ℕ, List, refl, inr, ◌∙◌, arith, rules, take}
use Rattle.std.proofs.lemmas.Grind.{common_steps}
use Rattle.std.proofs.lemmas.List.{length-append, length-take-le}
use Rattle.desk_messages.specs.Heads.{NeverHasHead}
use Rattle.desk_messages.proofs.HeadFronts.{full_never, no_head, none_here}
use Rattle.desk_messages.proofs.Pieces.{piece_read, with_nothing}
use Rattle.desk_messages.proofs.heads.read_head.Goals as goal

pub pieces-init : goal.pieces-init
pieces-init g c = record {
  within = omega arith;
  read = with_nothing (g.S.Source.left c.args.source.now);
  none = no_head;
  quiet = refl;
}

pub returns-in-Head-clause-read : goal.returns-in-Head-clause-read
returns-in-Head-clause-read g c =
    piece_read (g.S.Source.left c.args.source.now) (g.S.Source.left c.pieces.source) (g.S.Source.left c.read.new.self) c.pieces.bytes c.split_at_mut-space.result.0.now c.read.new.buf
    c.pieces.len c.in_ok-count.count c.pieces.invariant.read c.in_ok-count.ensures.bytes c.split_at_mut-space.ensures.front c.split_at_mut-space.ensures.front_len

pub returns-in-Refused-clause-read : goal.returns-in-Refused-clause-read
returns-in-Refused-clause-read g c =
    piece_read (g.S.Source.left c.args.source.now) (g.S.Source.left c.pieces.source) (g.S.Source.left c.read.new.self) c.pieces.bytes c.split_at_mut-space.result.0.now c.read.new.buf
    c.pieces.len c.in_ok-count.count c.pieces.invariant.read c.in_ok-count.ensures.bytes c.split_at_mut-space.ensures.front c.split_at_mut-space.ensures.front_len

pub returns-in-Refused-clause-none : goal.returns-in-Refused-clause-none
returns-in-Refused-clause-none g c =
    let bytes : List ℕ = take (c.pieces.len + c.in_ok-count.count) (c.split_at_mut-space.result.0.now ++ c.read.new.buf) in
    let never : NeverHasHead bytes = first_of (grind (arith, common_steps), search rules) in
    none_here bytes never

pub pieces-preserved : goal.pieces-preserved
pieces-preserved g c =
    let front = c.split_at_mut-space.result.0.now in
    let ok = c.in_ok-count.ensures in
    let split = c.split_at_mut-space.ensures in
    let whole = length-append front c.read.new.buf in
    record {
      within = omega (arith, ok.bound, split.front_len, whole);
      read = piece_read (g.S.Source.left c.args.source.now) (g.S.Source.left c.pieces.source) (g.S.Source.left c.read.new.self) c.pieces.bytes front c.read.new.buf c.pieces.len c.in_ok-count.count
          c.pieces.invariant.read ok.bytes split.front split.front_len;
      none = first_of (grind (arith, common_steps), search rules);
      quiet = ok.cause.is ∙ c.pieces.invariant.quiet;
    }

pub returns-clause-stops : goal.returns-clause-stops
returns-clause-stops g c =
    let long = length-take-le c.pieces.len c.pieces.bytes c.pieces.invariant.within in
    inr (full_never (take c.pieces.len c.pieces.bytes) (omega (arith, long, c.requires, c.pieces.auto.bytes, c.pieces-test.false)) c.pieces.invariant.none)
