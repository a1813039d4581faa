-- The answers of judging, by the definitions over the list.
use Rattle.std.specs.Prelude.{◌≡◌, ◌≢◌, ℕ, List, length, Option, Some, None}
use Rattle.rsl_chain.specs.Entries.{Taken}
use Rattle.rsl_chain.specs.declared.entries.EntryBody.{EntryBody}
use Rattle.rsl_chain.specs.declared.entries.EntryBody.TheVariants.{Reference, Annotation}
use Rattle.recovery.specs.Lanes.{first_of}
use Rattle.judging.specs.Rules.{Rules}
use Rattle.judging.specs.Logs.{fault_at, fault_of, from, lane}
use Rattle.judging.specs.declared.verdicts.EntryVerdict.{EntryVerdict}
use Rattle.judging.specs.declared.verdicts.EntryVerdict.TheVariants.{Authorised, Refused, Noted}
use Rattle.judging.specs.declared.verdicts.Verdict.{Verdict}
use Rattle.judging.specs.declared.verdicts.Verdict.TheVariants.{Violation, TipDiffers, Accepted}

-- what is answered of an entry that has this fault, or none
abbrev pub answer_of : {F : Type 0} → Option F → EntryVerdict F
answer_of None = Authorised
answer_of (Some fault) = Refused fault

abbrev pub body_verdict : {F : Type 0} → Option F → EntryBody → EntryVerdict F
body_verdict fault (Reference name target) = answer_of fault
body_verdict fault (Annotation ids skip message) = Noted

-- the verdict on the entry that comes after these
abbrev pub verdict_of : {P F : Type 0} → Rules P F → List Taken → Taken → EntryVerdict F
verdict_of rules earlier t = body_verdict (fault_of rules earlier (Some t)) t.entry.body

-- the verdict on a reference that has this value
abbrev pub IsJudged : {P F : Type 0} → Rules P F → List Taken → List ℕ → List ℕ → Verdict F → Type 0
IsJudged rules log name kept (Violation number fault) =
    (first_of (lane rules log name).pending ≡ Some number) × (fault_at rules log number ≡ Some fault)
IsJudged rules log name kept (TipDiffers stands recorded) =
    (first_of (lane rules log name).pending ≡ None) × (stands ≡ kept) × (recorded ≡ from rules log name)
    × (kept ≢ from rules log name)
IsJudged rules log name kept (Accepted count) =
    (first_of (lane rules log name).pending ≡ None) × (kept ≡ from rules log name)
    × (count ≡ length (lane rules log name).pushed)
