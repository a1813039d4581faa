use Rattle.std.proofs.Common.{◌≡◌, ◌++◌, true, [], ◌∷◌, length, refl, sym, ap, ◌∙◌, arith}
use Rattle.tests_turns.proofs.Logs.{added}
use Rattle.tests_turns.proofs.Pushed.{clean_of}
use Rattle.tests_turns.proofs.shops.Shop.step.Goals as goal

pub returns-in-Ok-commit-clause-done : goal.returns-in-Ok-commit-clause-done
returns-in-Ok-commit-clause-done g c =
    let K = g.R.Keeper in
    let old = c.args.self.now in
    let done = c.in-Ok-commit.ensures in
    let clean : old.clean ≡ true = clean_of old.clean (length old.log.items) c.args.after c.in_default.ensures in
    λ h is. added K.content K.faults old (record { log = c.push_reserved.new.self; keeper = c.commit.new.self; clean = old.clean }) h c.args.seat _ c.args.id.now c.in-Ok.change is clean c.in-Ok.ensures
    (c.push_reserved.ensures.items ∙ ap (λ l. l ++ record { id = c.args.id.now; seat = c.args.seat } ∷ []) c.reserve.ensures.items) done.content done.cause.later
    (omega (arith, c.len-in-Ok-commit.ensures, c.push_reserved.ensures.len, c.reserve.ensures.len)) (omega (arith, c.len-in-Ok-commit.ensures, c.push_reserved.ensures.len, c.reserve.ensures.len, c.len.ensures, c.if-len-ge-LIMIT.false))
