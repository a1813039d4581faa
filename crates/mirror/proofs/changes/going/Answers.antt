use Rattle.std.proofs.Common.{sym, ◌∙◌, rules}
use Rattle.keeper_api.proofs.Coming.{as_before_then}
use Rattle.mirror.proofs.Going.{all_gone, one_gone}
use Rattle.mirror.proofs.changes.going.Goals as goal

pub returns-in_default-clause-gone : goal.returns-in_default-clause-gone
returns-in_default-clause-gone g c = λ r told.
    all_gone r.refs c.refs.last c.refs.gone (c.refs.invariant.so r (c.next_name.ensures.same.content r told))
    (sym c.in_default.is ∙ c.in_ok-name.ensures.next r told)

pub refs-preserved : goal.refs-preserved
refs-preserved g c = record {
  so = λ r told. rw c.in_ok-add_going.ensures
      (one_gone r.refs c.refs.last c.refs.gone c.in-Some.name (c.refs.invariant.so r (c.next_name.ensures.same.content r told))
      (sym c.in-Some.is ∙ c.in_ok-name.ensures.next r told));
  same = as_before_then g.R.Keeper c.args.kept.now c.refs.kept c.next_name.new.kept
      c.refs.invariant.same c.next_name.ensures.same;
  quiet = search rules;
}
