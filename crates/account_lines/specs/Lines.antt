-- The lines that tell an entry and a verdict: objects of JSON, with the fields in the order of their names' bytes.
use Rattle.std.specs.Prelude.{ℕ, Bool, true, false, List, Option, Some, None, codes, option_and_then}
use Rattle.json_fields.specs.Values.{hex_data, line_text, list_data, number_data, option_data, text_data}
use Rattle.serde_json.specs.Data.{Data, Members, boolean, member, no_members, null, object, string}
use Rattle.rsl_chain.specs.declared.entries.Entry.{Entry}
use Rattle.rsl_chain.specs.declared.entries.EntryBody.{EntryBody}
use Rattle.rsl_chain.specs.declared.entries.EntryBody.TheVariants.{Reference, Annotation}
use Rattle.account_lines.specs.Authors.{author_of}
use Rattle.account_lines.specs.Times.{time_of}
use Rattle.judging.specs.declared.verdicts.EntryVerdict.{EntryVerdict}
use Rattle.judging.specs.declared.verdicts.EntryVerdict.TheVariants.{Authorised, Refused, Noted}
use Rattle.judging.specs.declared.verdicts.Verdict.{Verdict}
use Rattle.judging.specs.declared.verdicts.Verdict.TheVariants.{Accepted, TipDiffers, Violation}
use Rattle.judged_logs.specs.declared.mend.Mend.{Mend}
use Rattle.policy_changes.specs.declared.changes.Difference.{Difference}
use Rattle.policy_changes.specs.declared.changes.PolicyChange.{PolicyChange}
use Rattle.policy_epochs.specs.Telling.{fault_text}
use Rattle.entry_rules.specs.declared.faults.Fault.{Fault}
use Rattle.entry_rules.specs.declared.faults.Fault.TheVariants.{Broken, NoPolicy, NotEpoch, PathRule, RefRule}
use Rattle.account_lines.specs.declared.rows.EntryRow.{EntryRow}
use Rattle.account_lines.specs.declared.rows.Later.{Later}

-- ---- faults, with the parts that a verdict's line has

unfoldable pub fault_data : Fault → Data
fault_data NoPolicy = object (member (codes "kind") (string (codes "no-policy")) no_members)
fault_data (Broken id) = object (member (codes "id") (hex_data id)
    (member (codes "kind") (string (codes "broken")) no_members))
fault_data (RefRule rule got need) = object (member (codes "got") (number_data got)
    (member (codes "kind") (string (codes "ref-rule"))
    (member (codes "need") (number_data need) (member (codes "rule") (text_data rule) no_members))))
fault_data (PathRule path rule got need) = object (member (codes "got") (number_data got)
    (member (codes "kind") (string (codes "path-rule"))
    (member (codes "need") (number_data need) (member (codes "path") (text_data path)
    (member (codes "rule") (text_data rule) no_members)))))
fault_data (NotEpoch why) = object (member (codes "kind") (string (codes "not-epoch"))
    (member (codes "why") (text_data (fault_text why)) no_members))

-- ---- what a policy changes

-- the texts that it says and the one before it did not, and those that it no longer says
abbrev pub difference_data : Difference → Data
difference_data told = object (member (codes "added") (list_data text_data told.added)
    (member (codes "removed") (list_data text_data told.removed) no_members))

abbrev pub change_data : PolicyChange → Data
change_data change = object (member (codes "keys") (difference_data change.keys)
    (member (codes "persons") (difference_data change.persons)
    (member (codes "rules") (difference_data change.rules)
    (member (codes "thresholds") (difference_data change.thresholds) no_members))))

-- where there is a change, before other fields
abbrev pub changed_members : Option PolicyChange → Members → Members
changed_members None rest = rest
changed_members (Some change) rest = member (codes "changed") (change_data change) rest

-- ---- entries

-- what is answered of the entry, and its fault, if it has one
abbrev pub verdict_word : EntryVerdict Fault → List ℕ
verdict_word Authorised = codes "authorised"
verdict_word (Refused fault) = codes "refused"
verdict_word Noted = codes "noted"

abbrev pub refusal_data : EntryVerdict Fault → Data
refusal_data Authorised = null
refusal_data (Refused fault) = fault_data fault
refusal_data Noted = null

-- who an entry says made it, and when
abbrev pub author_data : Entry → Data
author_data entry = option_data text_data (author_of entry.signed)

abbrev pub time_data : Entry → Data
time_data entry = option_data number_data (option_and_then time_of (author_of entry.signed))

-- The fields of an entry stand in parts, each before the fields that are given.

-- of an entry of a reference: who made it, and how it was judged
abbrev pub judged_members : Entry → EntryRow → Members → Members
judged_members entry row rest =
    member (codes "author") (author_data entry) (changed_members row.changed
    (member (codes "epoch") (option_data number_data row.epoch)
    (member (codes "fault") (refusal_data row.verdict)
    (member (codes "from") (option_data hex_data row.from)
    (member (codes "id") (hex_data entry.id)
    (member (codes "key") (option_data hex_data entry.signer) rest))))))

-- where it stands
abbrev pub placed_members : Entry → List ℕ → EntryRow → Later → Members → Members
placed_members entry name row later rest =
    member (codes "kind") (string (codes "reference"))
    (member (codes "number") (number_data entry.number)
    (member (codes "persons") (list_data text_data row.persons)
    (member (codes "prior") (option_data number_data row.prior)
    (member (codes "reference") (text_data name)
    (member (codes "rescued") (option_data number_data later.rescuer) rest)))))

-- who signed it, and what it records
abbrev pub signed_members : Entry → List ℕ → EntryRow → Later → Members → Members
signed_members entry target row later rest =
    member (codes "signed") (boolean row.signed)
    (member (codes "signers") (list_data hex_data row.signers)
    (member (codes "skipped") (option_data number_data later.skipper)
    (member (codes "target") (hex_data target)
    (member (codes "time") (time_data entry)
    (member (codes "verdict") (string (verdict_word row.verdict)) rest)))))

-- an entry of a reference, as it was judged, and with what later entries make of it
abbrev pub reference_data : Entry → List ℕ → List ℕ → EntryRow → Later → Data
reference_data entry name target row later =
    object (judged_members entry row
    (placed_members entry name row later (signed_members entry target row later no_members)))

-- whether an annotation skips what it lists
abbrev pub annotation_word : Bool → List ℕ
annotation_word true = codes "skip"
annotation_word false = codes "note"

-- of an annotation: who made it, and what it lists
abbrev pub listing_members : Entry → List (List ℕ) → Bool → EntryRow → Members → Members
listing_members entry ids skip row rest =
    member (codes "author") (author_data entry)
    (member (codes "entries") (list_data hex_data ids)
    (member (codes "epoch") (option_data number_data row.epoch)
    (member (codes "id") (hex_data entry.id)
    (member (codes "key") (option_data hex_data entry.signer)
    (member (codes "kind") (string (annotation_word skip)) rest)))))

-- what it says, and who signed it
abbrev pub noting_members : Entry → List ℕ → EntryRow → Members → Members
noting_members entry message row rest =
    member (codes "message") (text_data message)
    (member (codes "number") (number_data entry.number)
    (member (codes "persons") (list_data text_data row.persons)
    (member (codes "signed") (boolean row.signed)
    (member (codes "time") (time_data entry)
    (member (codes "verdict") (string (verdict_word row.verdict)) rest)))))

abbrev pub annotation_data : Entry → List (List ℕ) → Bool → List ℕ → EntryRow → Data
annotation_data entry ids skip message row =
    object (listing_members entry ids skip row (noting_members entry message row no_members))

abbrev pub body_data : Entry → EntryRow → Later → EntryBody → Data
body_data entry row later (Reference name target) = reference_data entry name target row later
body_data entry row later (Annotation ids skip message) = annotation_data entry ids skip message row

unfoldable pub entry_line : Entry → EntryRow → Later → List ℕ
entry_line entry row later = line_text (body_data entry row later entry.body)

-- ---- verdicts on references

abbrev pub verdict_data : List ℕ → Verdict Fault → Data
verdict_data name (Accepted count) = object (member (codes "entries") (number_data count)
    (member (codes "reference") (text_data name)
    (member (codes "verdict") (string (codes "accepted")) no_members)))
verdict_data name (TipDiffers kept recorded) = object (member (codes "kept") (hex_data kept)
    (member (codes "recorded") (hex_data recorded)
    (member (codes "reference") (text_data name)
    (member (codes "verdict") (string (codes "tip-differs")) no_members))))
verdict_data name (Violation number fault) = object (member (codes "fault") (fault_data fault)
    (member (codes "number") (number_data number)
    (member (codes "reference") (text_data name)
    (member (codes "verdict") (string (codes "violation")) no_members))))

unfoldable pub verdict_line : List ℕ → Verdict Fault → List ℕ
verdict_line name verdict = line_text (verdict_data name verdict)

-- ---- references of which the log does not speak, and a rule does

-- a verdict with a field that says so; a violation is by an entry, of which the log speaks
abbrev pub unrecorded_data : List ℕ → Verdict Fault → Data
unrecorded_data name (Accepted count) = object (member (codes "entries") (number_data count)
    (member (codes "reference") (text_data name)
    (member (codes "unrecorded") (boolean true)
    (member (codes "verdict") (string (codes "accepted")) no_members))))
unrecorded_data name (TipDiffers kept recorded) = object (member (codes "kept") (hex_data kept)
    (member (codes "recorded") (hex_data recorded)
    (member (codes "reference") (text_data name)
    (member (codes "unrecorded") (boolean true)
    (member (codes "verdict") (string (codes "tip-differs")) no_members)))))
unrecorded_data name (Violation number fault) = verdict_data name (Violation number fault)

unfoldable pub unrecorded_line : List ℕ → Verdict Fault → List ℕ
unrecorded_line name verdict = line_text (unrecorded_data name verdict)

-- ---- whether an annotation would skip an entry

-- the id that it lists; the number of the entry, where the log has it; the reference, where the entry is of one
abbrev pub skip_data : List ℕ → Option ℕ → Option (List ℕ) → Bool → Data
skip_data id number name skips = object (member (codes "id") (hex_data id)
    (member (codes "number") (option_data number_data number)
    (member (codes "reference") (option_data text_data name)
    (member (codes "skips") (boolean skips) no_members))))

unfoldable pub skip_line : List ℕ → Option ℕ → Option (List ℕ) → Bool → List ℕ
skip_line id number name skips = line_text (skip_data id number name skips)

-- ---- violations, with what mends them

abbrev pub mend_data : Mend → Data
mend_data mend = object (member (codes "from") (option_data hex_data mend.from)
    (member (codes "prior") (option_data number_data mend.prior)
    (member (codes "skip") (list_data number_data mend.skip)
    (member (codes "tree") (option_data hex_data mend.tree) no_members))))

abbrev pub violation_data : List ℕ → ℕ → Fault → Mend → Data
violation_data name number fault mend = object (member (codes "fault") (fault_data fault)
    (member (codes "mends") (mend_data mend)
    (member (codes "number") (number_data number)
    (member (codes "reference") (text_data name)
    (member (codes "verdict") (string (codes "violation")) no_members)))))

unfoldable pub violation_line : List ℕ → ℕ → Fault → Mend → List ℕ
violation_line name number fault mend = line_text (violation_data name number fault mend)
