use Rattle.std.proofs.Common.{◌<◌, ◌+◌, ℕ, List, length, take, false, refl, sym, subst, ◌∙◌, arith}
use Rattle.std.proofs.lemmas.List.{take_all}
use Rattle.judging.specs.Books.{HasLanes}
use Rattle.judging.specs.Hits.{some_hit, without}
use Rattle.judging.proofs.HitLemmas.{hit_kept, hit_more, lanes_still, lanes_then, without_none}
use Rattle.judging.proofs.noting.skip_all.Goals as goal

pub ids-init : goal.ids-init
ids-init g c = record {
  lanes = λ hit is. lanes_still (λ name lane. without (λ n. false) lane) c.args.book.now (λ name lane. without_none (λ n. false) (λ n. refl) lane);
  same = refl;
}

pub ids-preserved : goal.ids-preserved
ids-preserved g c = record {
  lanes = λ hit is.
      let so_far = c.ids.invariant.lanes hit is in
      let ids = c.args.ids.now in
      let k = c.ids.id-index in
      let within : k < length ids = c.ids-test.true in
      lanes_then (some_hit hit (take k ids)) (hit c.id-item.result) (some_hit hit (take (k + 1) ids)) c.args.book.now c.ids.book c.skip_one.new.book so_far
      (c.skip_one.ensures.lanes hit (hit_kept (g.J.Judge.rules c.args.judge.now) c.args.policy.now c.args.key.now (some_hit hit (take k ids)) c.args.book.now c.ids.book hit so_far is))
      (λ n. hit_more hit ids k c.id-item.result n within (sym c.id-item.is));
  same = c.skip_one.ensures.targets ∙ c.ids.invariant.same;
}

pub returns-clause-lanes : goal.returns-clause-lanes
returns-clause-lanes g c = λ hit is.
    subst (λ (xs : List (List ℕ)). HasLanes (λ name lane. without (some_hit hit xs) lane) c.args.book.now c.ids.book) (take_all c.ids.id-index c.args.ids.now (omega arith)) (c.ids.invariant.lanes hit is)
