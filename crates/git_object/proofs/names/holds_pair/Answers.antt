use Rattle.std.proofs.Common.{◌≡◌, ◌+◌, ◌-◌, ◌≤◌, ℕ, length, drop, sym, ap, ◌∙◌, arith, length-drop}
use Rattle.git_object.specs.Names.{has_pair}
use Rattle.git_object.proofs.PairLemmas.{has_pair_later, has_pair_short}
use Rattle.git_object.proofs.names.holds_pair.Goals as goal

pub returns : goal.returns
returns c =
    let short : length (drop (c.bytes.end - 1) c.args.text.now) ≤ 1 = omega (arith, length-drop (c.bytes.end - 1) c.args.text.now) in
    sym (has_pair_short c.args.first c.args.second (drop (c.bytes.end - 1) c.args.text.now) short) ∙ c.bytes.invariant

pub bytes-preserved : goal.bytes-preserved
bytes-preserved c =
    let at : c.bytes.end + 1 - 1 ≡ c.bytes.end - 1 + 1 = omega arith in
    ap (λ (i : ℕ). has_pair c.args.first c.args.second (drop i c.args.text.now)) at
    ∙ has_pair_later c.args.first c.args.second c.args.text.now (c.bytes.end - 1) (omega arith) (sym c.stands_at.ensures ∙ c.if-stands_at.false)
    ∙ c.bytes.invariant
