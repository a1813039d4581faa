use Rattle.std.proofs.Common.{subst, sym}
use Rattle.std.specs.Prelude.{All}
use Rattle.metadata_writing.proofs.Refused.{moved}
use Rattle.metadata_writing.specs.Texts.{HasRuleTexts, IsNamed}
use Rattle.metadata_writing.proofs.metadata.RuleFileToJsonSecond.to_json.Goals as goal

pub returns-in-Err-list_json-clause-unwritable : goal.returns-in-Err-list_json-clause-unwritable
returns-in-Err-list_json-clause-unwritable c = λ is has. c.in-Err-list_json.ensures.unwritable (moved c.in-Err-list_json.fault is) (subst (All HasRuleTexts) (sym c.as_slice-2.ensures) has.rules)

pub returns-in-Err-list_json-2-clause-unwritable : goal.returns-in-Err-list_json-2-clause-unwritable
returns-in-Err-list_json-2-clause-unwritable c = λ is has. c.in-Err-list_json-2.ensures.unwritable (moved c.in-Err-list_json-2.fault is) (subst (All IsNamed) (sym c.as_slice-3.ensures.value) has.persons)
