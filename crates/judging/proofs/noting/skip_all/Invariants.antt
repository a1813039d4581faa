use Rattle.std.proofs.Common.{◌≡◌, ℕ, Bool, List, take}
use Rattle.judging.specs.Books.{HasLanes, Kept}
use Rattle.judging.specs.Hits.{IsHit, some_hit, without}
use Rattle.judging.specs.Rules.{Rules}
use Rattle.judging.proofs.noting.skip_all.Given as goal

pub record SoFar {P F : Type 0} (rules : Rules P F) (policy : P) (key : List ℕ) (ids : List (List ℕ)) (was now : Kept F) : Type 0 where
  pub lanes : (hit : List ℕ → ℕ → Bool) → IsHit rules policy key was hit → HasLanes (λ name lane. without (some_hit hit ids) lane) was now
  pub same : now.targets ≡ was.targets

abbrev pub invariant-ids : goal.invariant-ids
invariant-ids g l = SoFar (g.J.Judge.rules l.judge) l.policy l.key (take l.id-index l.ids) l.fn.book l.book
