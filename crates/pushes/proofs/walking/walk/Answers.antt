use Rattle.std.proofs.Common.{◌≡◌, ◌<◌, ◌^◌, ℕ, true, false, List, [], ◌∷◌, length, sym, subst, ◌∙◌, arith, rules}
use Rattle.pushes.specs.Needing.{Walk, is_done}
use Rattle.pushes.proofs.Walks.{empty}
use Rattle.pushes.proofs.Visiting.{ComesTo, ended, grows_one, skipped, smaller, went}
use Rattle.pushes.proofs.walking.walk.Goals as goal

pub ids-preserved-then-is_done : goal.ids-preserved-then-is_done
ids-preserved-then-is_done g c =
    let start : Walk = record { seen = c.args.seen.now; ahead = c.args.from.now ∷ [] } in
    let done : is_done c.ids.seen c.in-Some.id ≡ true = sym c.is_done.ensures ∙ c.if-is_done.true in
    record {
      at = λ r told. skipped r start c.ids.seen c.pop.new.self.items c.in-Some.id
          (subst (ComesTo r start c.ids.seen) c.in-Some.ensures.items (c.ids.invariant.at r told)) done;
      grows = c.ids.invariant.grows;
      same = c.ids.invariant.same;
      quiet = c.ids.invariant.quiet;
    }

pub ids-smaller : goal.ids-smaller
ids-smaller g c =
    let count = c.len-count.ensures.count in
    let low = c.len-count.ensures.small in
    let small : length c.ids.seen < 2 ^ 63 = omega (arith, count, low) in
    let len = c.follow.new.ahead.ok.0 in
    let fits = c.follow.new.ahead.ok.1 in
    let cap = c.follow.new.ahead.small in
    let short : length c.follow.new.ahead.items < 2 ^ 63 = omega (arith, len, fits, cap) in
    smaller c.ids.seen c.push-in-Some.new.self c.ids.ahead.items c.follow.new.ahead.items c.in-Some.id small c.in_ok-push-2.ensures.added short

pub ids-preserved : goal.ids-preserved
ids-preserved g c =
    let start : Walk = record { seen = c.args.seen.now; ahead = c.args.from.now ∷ [] } in
    let fresh : is_done c.ids.seen c.in-Some.id ≡ false = sym c.is_done.ensures ∙ c.if-is_done.false in
    record {
      at = λ r told.
          let at = subst (ComesTo r start c.ids.seen) c.in-Some.ensures.items (c.ids.invariant.at r (c.in_ok-follow.ensures.same.content r told)) in
          subst (λ (seen : List (List ℕ)). ComesTo r start seen c.follow.new.ahead.items) (sym c.in_ok-push-2.ensures.added)
          (went r start c.ids.seen c.pop.new.self.items c.in-Some.id at c.follow.new.ahead.items fresh (c.in_ok-follow.ensures.goes r told));
      grows = grows_one c.args.seen.now c.ids.seen c.push-in-Some.new.self c.in-Some.id c.ids.invariant.grows c.in_ok-push-2.ensures.added;
      same = search rules;
      quiet = search rules;
    }

pub returns-clause-ends : goal.returns-clause-ends
returns-clause-ends g c = λ r told.
    let none : length c.ids.ahead.items ≡ 0 = search rules in
    ended r c.args.seen.now c.ids.seen c.ids.ahead.items (c.args.from.now ∷ []) (empty c.ids.ahead.items none) (c.ids.invariant.at r told)
