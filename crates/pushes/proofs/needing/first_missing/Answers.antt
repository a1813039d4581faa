use Rattle.std.proofs.Common.{◌≡◌, ℕ, true, false, List, length, sym, ap, subst, ◌∙◌, rules}
use Rattle.pushes.specs.Needing.{is_done, start_of}
use Rattle.pushes.proofs.Walks.{IsAt, empty, ended, found, needed, skipped, still_at, went}
use Rattle.pushes.proofs.Weights.{smaller}
use Rattle.pushes.proofs.needing.first_missing.Goals as goal

pub ids-preserved-then-is_done : goal.ids-preserved-then-is_done
ids-preserved-then-is_done g c =
    let at = subst (IsAt c.args.objects.now (g.R.Keeper.content c.ids.keeper) (start_of c.args.body.now) c.ids.seen) c.in-Some.ensures.items c.ids.invariant.at in
    let done : is_done c.ids.seen c.in-Some.id ≡ true = sym c.is_done.ensures ∙ c.if-is_done.true in
    record {
      at = skipped c.args.objects.now (g.R.Keeper.content c.ids.keeper) (start_of c.args.body.now) c.ids.seen c.pop.new.self.items c.in-Some.id at done;
      same = c.ids.invariant.same;
      quiet = c.ids.invariant.quiet;
    }

pub returns-then-not-branch-clause-missing : goal.returns-then-not-branch-clause-missing
returns-then-not-branch-clause-missing g c = λ r told.
    let at = subst (IsAt c.args.objects.now (g.R.Keeper.content c.ids.keeper) (start_of c.args.body.now) c.ids.seen) c.in-Some.ensures.items c.ids.invariant.at in
    let fresh : is_done c.ids.seen c.in-Some.id ≡ false = sym c.is_done.ensures ∙ c.if-is_done.false in
    found c.args.objects.now (g.R.Keeper.content c.ids.keeper) (start_of c.args.body.now) c.ids.seen c.pop.new.self.items c.in-Some.id at fresh r (c.in_ok-follow.ensures.same.content r told)
    (record { not_pushed = c.in_ok-follow.ensures.not_pushed c.if-not-branch.true; not_kept = c.in_ok-follow.ensures.not_kept c.if-not-branch.true r told })

pub returns-then-not-branch-clause-needed : goal.returns-then-not-branch-clause-needed
returns-then-not-branch-clause-needed g c =
    let at = subst (IsAt c.args.objects.now (g.R.Keeper.content c.ids.keeper) (start_of c.args.body.now) c.ids.seen) c.in-Some.ensures.items c.ids.invariant.at in
    let fresh : is_done c.ids.seen c.in-Some.id ≡ false = sym c.is_done.ensures ∙ c.if-is_done.false in
    needed c.args.objects.now (g.R.Keeper.content c.ids.keeper) (start_of c.args.body.now) c.ids.seen c.pop.new.self.items c.in-Some.id at fresh (c.in_ok-follow.ensures.not_pushed c.if-not-branch.true)

pub ids-smaller : goal.ids-smaller
ids-smaller g c =
    let fresh : is_done c.ids.seen c.in-Some.id ≡ false = sym c.is_done.ensures ∙ c.if-is_done.false in
    smaller c.args.objects.now c.ids.seen c.push.new.self c.ids.ahead.items c.pop.new.self.items c.follow.new.ahead.items c.in-Some.id fresh c.in_ok-push.ensures.added c.in-Some.ensures.items (c.in_ok-follow.ensures.goes c.if-not-branch.false)

pub ids-preserved : goal.ids-preserved
ids-preserved g c =
    let at = subst (IsAt c.args.objects.now (g.R.Keeper.content c.ids.keeper) (start_of c.args.body.now) c.ids.seen) c.in-Some.ensures.items c.ids.invariant.at in
    let fresh : is_done c.ids.seen c.in-Some.id ≡ false = sym c.is_done.ensures ∙ c.if-is_done.false in
    let now = still_at c.args.objects.now (g.R.Keeper.content c.ids.keeper) (start_of c.args.body.now) c.ids.seen (g.R.Keeper.content c.follow.new.keeper) _ c.in_ok-follow.ensures.same.content at in
    let gone = went c.args.objects.now (g.R.Keeper.content c.follow.new.keeper) (start_of c.args.body.now) c.ids.seen c.pop.new.self.items c.in-Some.id now c.follow.new.ahead.items fresh (c.in_ok-follow.ensures.there c.if-not-branch.false) (c.in_ok-follow.ensures.goes c.if-not-branch.false) in
    record {
      at = subst (λ (seen : List (List ℕ)). IsAt c.args.objects.now (g.R.Keeper.content c.follow.new.keeper) (start_of c.args.body.now) seen c.follow.new.ahead.items) (sym c.in_ok-push.ensures.added) gone;
      same = search rules;
      quiet = search rules;
    }

pub returns-clause-complete : goal.returns-clause-complete
returns-clause-complete g c = λ r told.
    let none : length c.ids.ahead.items ≡ 0 = search rules in
    ended c.args.objects.now (g.R.Keeper.content c.ids.keeper) (start_of c.args.body.now) c.ids.seen c.ids.ahead.items (empty c.ids.ahead.items none) c.ids.invariant.at r told
