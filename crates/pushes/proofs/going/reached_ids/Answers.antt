use Rattle.std.proofs.Common.{List, ℕ, [], ◌∷◌, ◌++◌, drop, ap, subst, ◌∙◌}
use Rattle.pushes.specs.Reaching.{Ends}
use Rattle.pushes.proofs.Visiting.{behind_is}
use Rattle.pushes.proofs.going.reached_ids.Goals as goal

pub returns-clause-reached : goal.returns-clause-reached
returns-clause-reached g c = λ r told.
    let known = c.walk.new.seen in
    let whole = c.walk-2.new.seen in
    let ids = c.extend_from_slice.new.self.items in
    let back = c.split_at.result.1.now in
    let before = c.in_ok-walk.ensures.ends r (c.in_ok-walk-2.ensures.same.content r told) in
    let same = c.in_ok-extend_from_slice.ensures.items ∙ ap (λ (front : List (List ℕ)). front ++ back) c.new-ids.ensures.items in
    let is = behind_is known whole ids back c.len-known.result c.in_ok-walk-2.ensures.grows c.len-known.ensures.count
    (c.split_at.ensures.back ∙ ap (drop c.len-known.result) c.as_slice.ensures) same in
    record {
      known = known;
      from_before = subst (λ (seen : List (List ℕ)). Ends r seen (c.args.before.now ∷ []) known) c.new-seen.ensures before;
      from_target = subst (Ends r known (c.args.target.now ∷ [])) is (c.in_ok-walk-2.ensures.ends r told);
    }
