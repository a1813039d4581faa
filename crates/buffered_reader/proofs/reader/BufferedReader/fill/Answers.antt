use Rattle.std.proofs.Common.{◌≡◌, ◌+◌, List, ℕ, ◌++◌, sym, ap, ◌∙◌, arith, rules, length, take}
use Rattle.std.proofs.lemmas.List.{length-append}
use Rattle.std.proofs.Math.Seq.{take-append-add}
use Rattle.octets.specs.Content.{with_front}
use Rattle.buffered_reader.specs.Ahead.{ahead}
use Rattle.edge_io.proofs.Taken.{with_fronts}
use Rattle.buffered_reader.proofs.reader.BufferedReader.fill.Goals as goal

pub pieces-preserved : goal.pieces-preserved
pieces-preserved g c =
    let front = c.split_at_mut-rest.result.0.now in
    let count = c.in_ok-count.count in
    let after = ahead c.read.new.self (g.S.Source.left c.read.new.source) in
    let at : length front ≡ c.pieces.at = c.split_at_mut-rest.ensures.front_len in
    let whole = length-append front c.read.new.out in
    record {
      past = search rules;
      within = omega (arith, c.in_ok-count.ensures.bound);
      len = omega (arith, c.split_at_mut-rest.ensures.back_len);
      bytes = c.pieces.invariant.bytes ∙ ap (with_front (take c.pieces.at c.pieces.out)) c.in_ok-count.ensures.ahead ∙ with_fronts (take c.pieces.at c.pieces.out) (take count c.read.new.out) after
          ∙ ap (λ (taken : List ℕ). with_front taken after)
          (ap (λ (a : List ℕ). a ++ take count c.read.new.out) (sym c.split_at_mut-rest.ensures.front) ∙ sym (take-append-add front c.read.new.out count)
          ∙ ap (λ (k : ℕ). take (k + count) (front ++ c.read.new.out)) at);
      taken = omega (arith, c.in_ok-count.ensures.taken);
      limit = search rules;
      quiet = search rules;
    }
