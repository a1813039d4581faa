use Rattle.std.proofs.Common.{sym, ◌∙◌, take-append-drop, arith}
use Rattle.rsl_chain.proofs.DraftLemmas.{is_filled, is_nothing, piece_last, piece_next, piece_none}
use Rattle.rsl_chain.proofs.drafts.append_pieces.Goals as goal

pub pieces-preserved : goal.pieces-preserved
pieces-preserved c =
    piece_next c.args.text.now c.args.base64.now c.pieces.text c.pieces.rest.now c.split_at.result.0.now c.split_at.result.1.now c.append_line.new.text c.pieces.invariant
    (rw (c.split_at.ensures.front, c.split_at.ensures.back) (sym (take-append-drop 64 c.pieces.rest.now))) c.split_at.ensures.front_len c.in_ok-append_line.ensures

pub returns : goal.returns
returns c =
    piece_last c.args.text.now c.args.base64.now c.pieces.text c.pieces.rest.now c.append_line-2.new.text c.pieces.invariant
    (is_filled c.pieces.rest.now (sym c.is_empty.ensures ∙ c.if-is_empty.false)) (omega (arith, c.pieces-test.false)) c.in_ok-append_line-2.ensures

pub returns-then-is_empty : goal.returns-then-is_empty
returns-then-is_empty c =
    piece_none c.args.text.now c.args.base64.now c.pieces.text c.pieces.rest.now c.pieces.invariant (is_nothing c.pieces.rest.now (sym c.is_empty.ensures ∙ c.if-is_empty.true))
