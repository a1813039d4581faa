use Rattle.std.proofs.Common.{◌≡◌, ◌≤◌, [], ◌∷◌, List, ℕ, inr, length, refl, sym, ap, subst, ◌∙◌, arith, take}
use Rattle.octets.specs.Content.{with_front}
use Rattle.std.specs.Prelude.{IfSome, Option, OnErr, Result, Ok, Err}
use Rattle.std.proofs.lemmas.List.{length-take-le}
use Rattle.buffered_reader.specs.Ahead.{past}
use Rattle.buffered_reader.proofs.Fronts.{ends_below, goes_on, none_buffered, past_limit}
use Rattle.buffered_reader.proofs.reader.BufferedReader.passes_limit.Goals as goal

single : (xs : List ℕ) → length xs ≡ 1 → (x : ℕ) × (xs ≡ x ∷ [])
single [] one = absurd (omega arith)
single (x ∷ []) one = (x, refl)
single (x ∷ y ∷ xs) one = absurd (omega arith)

pub returns-then-taken-limit-clause-end : goal.returns-then-taken-limit-clause-end
returns-then-taken-limit-clause-end g c = λ _ none end.
    ends_below c.args.self.now (g.S.Source.left c.args.source.now) (omega arith) none end

pub returns-then-count-eq0-clause-none : goal.returns-then-count-eq0-clause-none
returns-then-count-eq0-clause-none g c = λ _.
    let r = c.args.self.now in
    let left = g.S.Source.left c.args.source.now in
    let full : r.limit ≤ r.taken = omega arith in
    let none = none_buffered r.buffered r.taken r.limit c.limit.ensures.limited full in
    inr (subst (λ (o : Option (List ℕ)). IfSome o (λ rest. rest ≡ [])) (sym (past_limit r left full none)) (c.in_ok-count.ensures.end c.if-count-eq0.true (omega arith)))

pub returns-clause-more : goal.returns-clause-more
returns-clause-more g c = λ _.
    let r = c.args.self.now in
    let left = g.S.Source.left c.args.source.now in
    let full : r.limit ≤ r.taken = omega arith in
    let none = none_buffered r.buffered r.taken r.limit c.limit.ensures.limited full in
    let len = length-take-le c.in_ok-count.count c.read.new.buf c.in_ok-count.ensures.bound in
    (omega (arith, c.limit.ensures.limited), goes_on (past r left) (g.S.Source.left c.read.new.self) (take c.in_ok-count.count c.read.new.buf) (past_limit r left full none ∙ c.in_ok-count.ensures.bytes) (omega arith))

pub returns-clause-one : goal.returns-clause-one
returns-clause-one g c = λ _.
    let r = c.args.self.now in
    let left = g.S.Source.left c.args.source.now in
    let full : r.limit ≤ r.taken = omega arith in
    let none = none_buffered r.buffered r.taken r.limit c.limit.ensures.limited full in
    let len = length-take-le c.in_ok-count.count c.read.new.buf c.in_ok-count.ensures.bound in
    let width : length c.read.new.buf ≡ 1 = c.read.auto.buf in
    let bound : c.in_ok-count.count ≤ length c.read.new.buf = c.in_ok-count.ensures.bound in
    let one : length (take c.in_ok-count.count c.read.new.buf) ≡ 1 = omega arith in
    let front = single (take c.in_ok-count.count c.read.new.buf) one in
    record { byte = front.0; read = past_limit r left full none ∙ c.in_ok-count.ensures.bytes ∙ ap (λ (b : List ℕ). with_front b (g.S.Source.left c.read.new.self)) front.1 }

always : {T E : Type 0} (r : Result T E) (P : Type 0) → P → OnErr r P
always (Ok x) P p = tt
always (Err e) P p = p

pub returns-in_err-count-clause-failed : goal.returns-in_err-count-clause-failed
returns-in_err-count-clause-failed g c =
    let r = c.args.self.now in
    let left = g.S.Source.left c.args.source.now in
    let full : r.limit ≤ r.taken = omega arith in
    let none = none_buffered r.buffered r.taken r.limit c.limit.ensures.limited full in
    always c.from_residual.result (g.S.Source.left c.read.new.self ≡ past r left) (c.in_err-count.ensures.failed ∙ sym (past_limit r left full none))
