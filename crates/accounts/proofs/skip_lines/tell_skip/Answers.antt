use Rattle.std.proofs.Common.{None, subst, sym}
use Rattle.std.proofs.lemmas.Result.{IfErr-weaker, IfOk-weaker}
use Rattle.judging.specs.Engines.{Stands}
use Rattle.judging.specs.declared.engine.Engine.{Engine}
use Rattle.policy_epochs.specs.declared.policies.Policy.{Policy}
use Rattle.entry_rules.specs.RealRules.{real_rules}
use Rattle.entry_rules.specs.declared.faults.Fault.{Fault}
use Rattle.accounts.proofs.Skipping.{found_none}
use Rattle.accounts.proofs.skip_lines.tell_skip.Goals as goal

pub returns-in-Some-clause-told : goal.returns-in-Some-clause-told
returns-in-Some-clause-told g c =
    IfOk-weaker c.tell_there.result _ _ (λ told so r content is.
    let rules = real_rules c.args.judged.now.engine.rules.anchor in
    let follows = subst (λ (e : Engine Policy Fault). Stands rules is.log e) (sym c.entries.ensures) is.stands.follows in
    so r content is ((c.place.ensures rules is.log follows c.in-Some.number).0 c.in-Some.is)) c.tell_there.ensures.told

pub returns-in-Some-clause-unbroken : goal.returns-in-Some-clause-unbroken
returns-in-Some-clause-unbroken g c =
    IfErr-weaker c.tell_there.result _ _ (λ fault so r content is.
    let rules = real_rules c.args.judged.now.engine.rules.anchor in
    let follows = subst (λ (e : Engine Policy Fault). Stands rules is.log e) (sym c.entries.ensures) is.stands.follows in
    so r content is ((c.place.ensures rules is.log follows c.in-Some.number).0 c.in-Some.is)) c.tell_there.ensures.unbroken

pub returns-in-Ok-clause-told : goal.returns-in-Ok-clause-told
returns-in-Ok-clause-told g c = λ r content is.
    let rules = real_rules c.args.judged.now.engine.rules.anchor in
    let follows = subst (λ (e : Engine Policy Fault). Stands rules is.log e) (sym c.entries.ensures) is.stands.follows in
    record {
      ids = is.ids;
      is_log = is.is_log;
      log = is.log;
      entries = is.entries;
      number = 0;
      found = None;
      at = found_none is.log c.args.id.now c.place.result c.in-None.is (c.place.ensures rules is.log follows);
      told = c.in-Ok.ensures.line;
      is = c.in-Ok.ensures.skips;
    }
