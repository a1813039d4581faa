-- What comes of a keeper.
use Rattle.std.proofs.Common.{◌≡◌, ◌<◌, ◌≤◌, ◌+◌, ◌-◌, ◌^◌, ℕ, min, Ok, Err, Result, sym, ◌∙◌, arith}
use Rattle.octets.specs.Causes.{HasCause, count_after}
use Rattle.keeper_api.specs.Faults.{keeper_failed}
use Rattle.keeper_api.specs.Keepers.{AsBefore}
use Rattle.keeper_api.specs.declared.keeper_faults.KeeperFault.{KeeperFault}
use Rattle.keeper_api.specs.declared.keeper_faults.KeeperFault.TheVariants.{Failed, Memory}
use Rattle.sqlite.specs.Store.{Ghosts}
use Rattle.keeper_sqlite.specs.Answering.{IsAnswered}
use Rattle.keeper_sqlite.specs.Keepers.{Kept, ComesOf, LooksAt, TellsAfterAt, TellsOnAt, content_of, left_of, tells_left_of}

-- an answer for which no fault was counted is no failure
answered_by : {T : Type 0} (result : Result T KeeperFault) (count count_now : ℕ) → count_now ≡ count_after keeper_failed count result → count < 2 ^ 64 - 1 → count_now ≡ count → IsAnswered result
answered_by (Ok value) count count_now is below same = tt
answered_by (Err Memory) count count_now is below same = tt
answered_by (Err Failed) count count_now is below same = absurd (let e : min (count + 1) (2 ^ 64 - 1) ≡ count = sym is ∙ same in omega (arith, e, below))

module _ {S : Type 0} (g : Ghosts S) where
  pub tells_on : {T : Type 0} (result : Result T KeeperFault) (k l : Kept S) → TellsAfterAt g result k l → HasCause keeper_failed k.faults l.faults result → TellsOnAt g k l
  tells_on result k l after cause = record {
    was_clean = after.was_clean;
    content = λ clean below same. after.content clean (answered_by result k.faults l.faults cause.is below same);
    left = λ clean below same. after.left clean (answered_by result k.faults l.faults cause.is below same);
  }

  pub comes_then : (first k l : Kept S) → k.faults ≤ l.faults → TellsOnAt g k l → ComesOf g first k → ComesOf g first l
  comes_then first k l later on came = record {
    later = let before = came.later in omega (arith, before, later);
    on = record {
      was_clean = λ clean. came.on.was_clean (on.was_clean clean);
      content = λ clean below same some.
          let mid : k.faults ≡ first.faults = (let before = came.later in omega (arith, before, later, same)) in
          on.content clean (let b = below in omega (arith, b, mid)) (same ∙ sym mid) (came.on.content (on.was_clean clean) below mid some);
      left = λ clean below same told.
          let mid : k.faults ≡ first.faults = (let before = came.later in omega (arith, before, later, same)) in
          on.left clean (let b = below in omega (arith, b, mid)) (same ∙ sym mid) (came.on.left (on.was_clean clean) below mid told);
    };
  }

  -- a call that makes no commit, and what was counted of it
  pub as_before : {T : Type 0} (result : Result T KeeperFault) (k l : Kept S) → LooksAt g result k l → HasCause keeper_failed k.faults l.faults result
      → AsBefore {S = Kept S} (content_of g k) (content_of g l) (tells_left_of g k) (tells_left_of g l) (left_of g k) (left_of g l) (λ first. ComesOf g first k) (λ first. ComesOf g first l)
  as_before result k l looks cause = record {
    content = looks.content;
    tells = looks.tells;
    left = looks.left;
    comes = λ first. comes_then first k l cause.later (tells_on result k l looks.on cause);
  }
