-- No number in a line has a fraction, so each line is the text of its value.
use Rattle.std.proofs.Common.{◌≡◌, ◌∙◌, ℕ, Bool, false, List, Option, Some, None, refl, ap}
use Rattle.std.specs.Prelude.{IfOk, Result, option_and_then}
use Rattle.std.proofs.lemmas.Result.{IfOk-weaker}
use Rattle.serde_json.specs.Data.{Data, Members}
use Rattle.serde_json.specs.Written.{has_float, members_have_float}
use Rattle.json_fields.specs.Values.{hex_data, line_text, number_data, text_data}
use Rattle.json_fields.proofs.Floatless.{list_floatless, option_floatless, text_floatless}
use Rattle.rsl_chain.specs.declared.entries.Entry.{Entry}
use Rattle.account_lines.specs.Authors.{author_of}
use Rattle.account_lines.specs.Times.{time_of}
use Rattle.rsl_chain.specs.declared.entries.EntryBody.{EntryBody}
use Rattle.rsl_chain.specs.declared.entries.EntryBody.TheVariants.{Reference, Annotation}
use Rattle.judging.specs.declared.verdicts.EntryVerdict.{EntryVerdict}
use Rattle.judging.specs.declared.verdicts.EntryVerdict.TheVariants.{Authorised, Refused, Noted}
use Rattle.judging.specs.declared.verdicts.Verdict.{Verdict}
use Rattle.judging.specs.declared.verdicts.Verdict.TheVariants.{Accepted, TipDiffers, Violation}
use Rattle.judged_logs.specs.declared.mend.Mend.{Mend}
use Rattle.policy_changes.specs.declared.changes.Difference.{Difference}
use Rattle.policy_changes.specs.declared.changes.PolicyChange.{PolicyChange}
use Rattle.policy_epochs.specs.Telling.{fault_text}
use Rattle.entry_rules.specs.declared.faults.Fault.{Fault}
use Rattle.entry_rules.specs.declared.faults.Fault.TheVariants.{Broken, NoPolicy, NotEpoch, PathRule, RefRule}
use Rattle.account_lines.specs.Lines.{body_data, fault_data, mend_data, refusal_data, skip_data, unrecorded_data, verdict_data}
use Rattle.account_lines.specs.Lines.{change_data, changed_members, difference_data, violation_data}
use Rattle.account_lines.specs.declared.rows.EntryRow.{EntryRow}
use Rattle.account_lines.specs.declared.rows.Later.{Later}

pub fault_floatless : (fault : Fault) → has_float (fault_data fault) ≡ false
unfolding fault_data
fault_floatless NoPolicy = refl
fault_floatless (Broken id) = refl
fault_floatless (RefRule rule got need) = rw (text_floatless rule) refl
fault_floatless (PathRule path rule got need) = rw (text_floatless path, text_floatless rule) refl
fault_floatless (NotEpoch why) = rw (text_floatless (fault_text why)) refl

difference_floatless : (told : Difference) → has_float (difference_data told) ≡ false
difference_floatless told = rw (list_floatless text_data text_floatless told.added, list_floatless text_data text_floatless told.removed) refl

pub change_floatless : (change : PolicyChange) → has_float (change_data change) ≡ false
change_floatless change = rw (difference_floatless change.keys, difference_floatless change.persons, difference_floatless change.rules, difference_floatless change.thresholds) refl

pub verdict_floatless : (name : List ℕ) (verdict : Verdict Fault) → has_float (verdict_data name verdict) ≡ false
verdict_floatless name (Accepted count) = rw (text_floatless name) refl
verdict_floatless name (TipDiffers kept recorded) = rw (text_floatless name) refl
verdict_floatless name (Violation number fault) = rw (fault_floatless fault, text_floatless name) refl

pub unrecorded_floatless : (name : List ℕ) (verdict : Verdict Fault) → has_float (unrecorded_data name verdict) ≡ false
unrecorded_floatless name (Accepted count) = rw (text_floatless name) refl
unrecorded_floatless name (TipDiffers kept recorded) = rw (text_floatless name) refl
unrecorded_floatless name (Violation number fault) = verdict_floatless name (Violation number fault)

pub skip_floatless : (id : List ℕ) (number : Option ℕ) (name : Option (List ℕ)) (skips : Bool) → has_float (skip_data id number name skips) ≡ false
skip_floatless id number name skips = rw (option_floatless number_data (λ _. refl) number, option_floatless text_data text_floatless name) refl

mend_floatless : (mend : Mend) → has_float (mend_data mend) ≡ false
mend_floatless mend =
    rw (option_floatless hex_data (λ _. refl) mend.from, option_floatless number_data (λ _. refl) mend.prior, list_floatless number_data (λ _. refl) mend.skip, option_floatless hex_data (λ _. refl) mend.tree) refl

pub violation_floatless : (name : List ℕ) (number : ℕ) (fault : Fault) (mend : Mend) → has_float (violation_data name number fault mend) ≡ false
violation_floatless name number fault mend = rw (fault_floatless fault, mend_floatless mend, text_floatless name) refl

-- what is written for a value, under the name that the value has here
pub exact_line : {E : Type 0} (r : Result (List ℕ) E) (v d : Data) → v ≡ d → has_float d ≡ false → IfOk r (λ t. has_float v ≡ false → t ≡ line_text v) → IfOk r (λ t. t ≡ line_text d)
exact_line r v d is none h = IfOk-weaker r _ _ (λ t made. made (ap has_float is ∙ none) ∙ ap line_text is) h
