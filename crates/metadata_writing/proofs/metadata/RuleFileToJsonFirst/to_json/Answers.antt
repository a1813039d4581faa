use Rattle.std.proofs.Common.{subst, sym}
use Rattle.std.specs.Prelude.{All}
use Rattle.metadata_writing.proofs.Refused.{moved}
use Rattle.metadata_writing.specs.Texts.{HasRuleTexts}
use Rattle.metadata_writing.proofs.metadata.RuleFileToJsonFirst.to_json.Goals as goal

pub returns-in-Err-list_json-clause-unwritable : goal.returns-in-Err-list_json-clause-unwritable
returns-in-Err-list_json-clause-unwritable c = λ is has. c.in-Err-list_json.ensures.unwritable (moved c.in-Err-list_json.fault is) (subst (All HasRuleTexts) (sym c.as_slice-2.ensures) has.rules)
