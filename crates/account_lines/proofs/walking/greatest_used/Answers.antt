use Rattle.std.proofs.Common.{◌≡◌, [], List, Option, ℕ, refl, rules, ap, subst, sym, ◌∙◌}
use Rattle.std.proofs.lemmas.List.{take_all}
use Rattle.keeper_api.proofs.Coming.{as_before_then}
use Rattle.account_lines.specs.Used.{IsUsed, greater}
use Rattle.account_lines.proofs.Greatest.{used_more}
use Rattle.account_lines.proofs.walking.greatest_used.Goals as goal

pub ids-init : goal.ids-init
ids-init g c = record {
  so = λ r told. record { entries = []; are = refl; is = refl };
  same = search rules;
  quiet = refl;
}

pub ids-preserved : goal.ids-preserved
ids-preserved g c = record {
  so = λ r told.
      used_more r c.args.id.now c.args.public.now c.args.ids.now c.ids.place-index c.place-item.result c.ids-test.true c.place-item.is c.ids.most c.in-Ok.entry
      (c.ids.invariant.so r (c.read_entry.ensures.same.content r told)) (c.in-Ok.ensures.entry r told)
      c.greater-most.result (c.greater-most.ensures ∙ ap (greater c.ids.most) c.leaf_in.ensures);
  same = as_before_then g.R.Keeper c.args.keeper.now c.ids.keeper c.read_entry.new.keeper
      c.ids.invariant.same c.read_entry.ensures.same;
  quiet = search rules;
}

pub returns-clause-used : goal.returns-clause-used
returns-clause-used g c = λ r told.
    subst (λ (xs : List (List ℕ)). IsUsed r c.args.id.now c.args.public.now xs c.ids.most) (take_all c.ids.place-index c.args.ids.now c.ids-test.false) (c.ids.invariant.so r told)
