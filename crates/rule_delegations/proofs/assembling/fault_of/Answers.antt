use Rattle.std.proofs.Common.{sym, subst}
use Rattle.rule_delegations.specs.Assembling.{IsCutOff, IsTwice}
use Rattle.rule_delegations.specs.Deep.{IsDeepName}
use Rattle.rule_delegations.specs.Forests.{AreDistinct}
use Rattle.rule_delegations.proofs.Faults.{least_name, no_name, none_first_deep, not_deep, once_distinct, passed, too_many}
use Rattle.rule_delegations.proofs.assembling.fault_of.Goals as goal

pub come_upon-requires-clause-distinct : goal.come_upon-requires-clause-distinct
come_upon-requires-clause-distinct c = once_distinct c.args.forest.now (no_name IsTwice c.files.result.now c.args.forest.now c.in_ok-name.field-0 c.files.ensures.value c.in_ok-name.ensures c.in-None.is)

pub cut_off-requires-clause-distinct : goal.cut_off-requires-clause-distinct
cut_off-requires-clause-distinct c = subst AreDistinct (sym c.files-2.ensures.value) (once_distinct c.args.forest.now (no_name IsTwice c.files.result.now c.args.forest.now c.in_ok-name.field-0 c.files.ensures.value c.in_ok-name.ensures c.in-None.is))

pub returns-in-Some-2 : goal.returns-in-Some-2
returns-in-Some-2 c = ((no_name IsTwice c.files.result.now c.args.forest.now c.in_ok-name.field-0 c.files.ensures.value c.in_ok-name.ensures c.in-None.is), least_name IsCutOff c.files-2.result.now c.args.forest.now c.in_ok-name-2.field-0 c.in-Some-2.name c.files-2.ensures.value c.in_ok-name-2.ensures c.in-Some-2.is)

pub too_deep-requires : goal.too_deep-requires
too_deep-requires c = once_distinct c.args.forest.now (no_name IsTwice c.files.result.now c.args.forest.now c.in_ok-name.field-0 c.files.ensures.value c.in_ok-name.ensures c.in-None.is)

pub returns-in-Some-3 : goal.returns-in-Some-3
returns-in-Some-3 c = ((no_name IsTwice c.files.result.now c.args.forest.now c.in_ok-name.field-0 c.files.ensures.value c.in_ok-name.ensures c.in-None.is), (no_name IsCutOff c.files-2.result.now c.args.forest.now c.in_ok-name-2.field-0 c.files-2.ensures.value c.in_ok-name-2.ensures c.in-None-2.is), subst (IsDeepName c.args.forest.now) c.in-Some-3.is c.in_ok-name-3.ensures)

pub returns-in-Some-excess : goal.returns-in-Some-excess
returns-in-Some-excess c = (
  (no_name IsTwice c.files.result.now c.args.forest.now c.in_ok-name.field-0 c.files.ensures.value c.in_ok-name.ensures c.in-None.is),
  (no_name IsCutOff c.files-2.result.now c.args.forest.now c.in_ok-name-2.field-0 c.files-2.ensures.value c.in_ok-name-2.ensures c.in-None-2.is),
  none_first_deep c.args.forest.now (not_deep c.args.forest.now c.in_ok-name-3.field-0 c.in_ok-name-3.ensures c.in-None-3.is),
  too_many c.files-3.result.now c.args.forest.now c.excess.result c.in-Some-excess.count c.files-3.ensures.value c.excess.ensures c.in-Some-excess.is,
)

pub returns : goal.returns
returns c = passed c.files-3.result.now c.args.forest.now c.excess.result (no_name IsTwice c.files.result.now c.args.forest.now c.in_ok-name.field-0 c.files.ensures.value c.in_ok-name.ensures c.in-None.is) (no_name IsCutOff c.files-2.result.now c.args.forest.now c.in_ok-name-2.field-0 c.files-2.ensures.value c.in_ok-name-2.ensures c.in-None-2.is) (not_deep c.args.forest.now c.in_ok-name-3.field-0 c.in_ok-name-3.ensures c.in-None-3.is) c.files-3.ensures.value c.excess.ensures c.in-None-excess.is
