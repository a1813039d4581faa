use Rattle.std.proofs.Common.{length, sym, ap, ◌∙◌, rules}
use Rattle.std.proofs.lemmas.Bool.{false≢true}
use Rattle.std.proofs.lemmas.List.{length_push}
use Rattle.keeper_api.proofs.Coming.{as_before_then}
use Rattle.rsl_chain.specs.Logs.{heads_of}
use Rattle.rsl_chain.proofs.Walks.{back_end, back_missing, back_next, back_other, few_next, reads_next}
use Rattle.rsl_chain.proofs.chain.walk_back.Goals as goal

pub returns-in_default-clause-broken : goal.returns-in_default-clause-broken
returns-in_default-clause-broken g c = λ r told.
    back_missing (heads_of r) c.args.tip.now c.entries.ids c.entries.wanted c.entries.at (c.entries.invariant.back r (c.load_head.ensures.same.content r told))
    (c.in_ok-head.ensures.answer r told ∙ c.in_default.is)

pub returns-then-not-is_wanted-clause-broken : goal.returns-then-not-is_wanted-clause-broken
returns-then-not-is_wanted-clause-broken g c = λ r told.
    back_other (heads_of r) c.args.tip.now c.entries.ids c.entries.wanted c.entries.at c.in-Some.head (c.entries.invariant.back r (c.load_head.ensures.same.content r told))
    (c.in_ok-head.ensures.answer r told ∙ c.in-Some.is) (λ is. false≢true (sym c.if-not-is_wanted.true ∙ c.is_wanted.ensures.1 is))

pub returns-in_default-parent-clause-log : goal.returns-in_default-parent-clause-log
returns-in_default-parent-clause-log g c = λ r told.
    rw c.in_ok-push.ensures.added
    (back_end (heads_of r) c.args.tip.now c.entries.ids c.entries.wanted c.entries.at c.in-Some.head (c.entries.invariant.back r (c.load_head.ensures.same.content r told))
    (c.in_ok-head.ensures.answer r told ∙ c.in-Some.is) (rw c.in-Some.is at c.in_ok-head.ensures.valid) (c.is_wanted.ensures.0 c.if-not-is_wanted.false) c.in_default-parent.is)

pub entries-preserved : goal.entries-preserved
entries-preserved g c = record {
  back = λ r told. rw c.in_ok-push.ensures.added
      (back_next (heads_of r) c.args.tip.now c.entries.ids c.entries.wanted c.entries.at c.in-Some-parent.parent c.in-Some.head
      (c.entries.invariant.back r (c.load_head.ensures.same.content r told))
      (c.in_ok-head.ensures.answer r told ∙ c.in-Some.is) (rw c.in-Some.is at c.in_ok-head.ensures.valid) (c.is_wanted.ensures.0 c.if-not-is_wanted.false) c.in-Some-parent.is);
  few = few_next (length c.entries.ids) c.entries.wanted c.in-Some.head c.in-Some-parent.parent _ c.entries.invariant.few (c.is_wanted.ensures.0 c.if-not-is_wanted.false)
      (rw c.in-Some.is at c.in_ok-head.ensures.valid) c.in-Some-parent.is (ap length c.in_ok-push.ensures.added ∙ length_push c.entries.ids c.entries.at);
  same = as_before_then g.R.Keeper c.args.keeper.now c.entries.keeper c.load_head.new.keeper
      c.entries.invariant.same c.load_head.ensures.same;
  quiet = search rules;
  reads = reads_next (g.R.Keeper.reads c.args.keeper.now) _ _ (length c.entries.ids) _ c.entries.invariant.reads c.load_head.ensures.reads (ap length c.in_ok-push.ensures.added ∙ length_push c.entries.ids c.entries.at);
}
