use Rattle.std.proofs.Common.{◌≡◌, ℕ, ◌+◌, List, ◌++◌, length, take, sym, ◌∙◌, ap, arith}
use Rattle.std.specs.Int.{w32, to_be_bytes}
use Rattle.std.proofs.lemmas.List.{take_all}
use Rattle.lmots.proofs.hashes.head.Goals as goal

pub returns : goal.returns
returns c =
    let first : take 16 c.put.new.out ≡ c.args.i.now =
    ap (λ (n : ℕ). take (0 + n) c.put.new.out) (sym c.told-i) ∙ c.put.ensures.front in
    let second : take 20 c.put-2.new.out ≡ c.args.i.now ++ to_be_bytes w32 c.args.q =
    ap (λ (n : ℕ). take (16 + n) c.put-2.new.out) (sym (ap length c.to_be_bytes.ensures))
    ∙ c.put-2.ensures.front ∙ ap (λ (l : List ℕ). l ++ c.to_be_bytes.result) first
    ∙ ap (λ (l : List ℕ). c.args.i.now ++ l) c.to_be_bytes.ensures in
    sym (take_all 22 c.put-3.new.out (omega arith))
    ∙ ap (λ (n : ℕ). take (20 + n) c.put-3.new.out) (sym (ap length c.to_be_bytes-2.ensures))
    ∙ c.put-3.ensures.front ∙ ap (λ (l : List ℕ). l ++ c.to_be_bytes-2.result) second
    ∙ ap (λ (l : List ℕ). c.args.i.now ++ to_be_bytes w32 c.args.q ++ l) c.to_be_bytes-2.ensures
