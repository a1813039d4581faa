use Rattle.std.proofs.Common.{◌≡◌, ℕ, false, List, Option, Bor, sym, subst, ◌∙◌}
use Rattle.std.specs.Option.{option_copied}
use Rattle.judging.specs.Hits.{IsHitBy, IsHitOf, some_hit, without}
use Rattle.judging.proofs.HitLemmas.{hit_never, lanes_still, without_none}
use Rattle.judging.proofs.noting.skip_listed.Goals as goal

pub returns-in_default-clause-lanes : goal.returns-in_default-clause-lanes
returns-in_default-clause-lanes g c = λ hit is.
    let Q : Option (Bor g.row.P.Denot) → Type 0 = λ p. IsHitBy (g.J.Judge.rules c.args.judge.now) (option_copied p) c.args.annotation.now c.args.book.now hit in
    let never : (id : List ℕ) (n : ℕ) → hit id n ≡ false = subst Q c.in_default.is is in
    lanes_still (λ name lane. without (some_hit hit c.args.ids.now) lane) c.args.book.now (λ name lane. without_none (some_hit hit c.args.ids.now) (hit_never hit never c.args.ids.now) lane)

pub returns-in-None-clause-lanes : goal.returns-in-None-clause-lanes
returns-in-None-clause-lanes g c = λ hit is.
    let rules = g.J.Judge.rules c.args.judge.now in
    let Q : Option (Bor g.row.P.Denot) → Type 0 = λ p. IsHitBy rules (option_copied p) c.args.annotation.now c.args.book.now hit in
    let R : Option (List ℕ) → Type 0 = λ k. IsHitOf rules c.in-Some.policy.now k c.args.book.now hit in
    let never : (id : List ℕ) (n : ℕ) → hit id n ≡ false = subst R (sym c.skipper.ensures ∙ c.in-None.is) (subst Q c.in-Some.is is) in
    lanes_still (λ name lane. without (some_hit hit c.args.ids.now) lane) c.args.book.now (λ name lane. without_none (some_hit hit c.args.ids.now) (hit_never hit never c.args.ids.now) lane)
