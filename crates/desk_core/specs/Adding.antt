-- What a push would add to a log, and whether its entry would be refused there.
use Rattle.std.specs.Prelude.{◌≡◌, ◌++◌, ◌∷◌, [], ℕ, Bool, not, List, Option, Some, None}
use Rattle.std.specs.List.{filter}
use Rattle.git_object.specs.Names.{log_name}
use Rattle.git_object.specs.Objects.{pair_id}
use Rattle.git_object.specs.Repository.{Repository}
use Rattle.keeper_api.specs.Changes.{changed}
use Rattle.keeper_api.specs.declared.changes.Change.{Change}
use Rattle.keeper_api.specs.declared.changes.RefChange.{RefChange}
use Rattle.rsl_chain.specs.Entries.{Taken}
use Rattle.rsl_chain.specs.declared.entries.Entry.{Entry}
use Rattle.rsl_chain.specs.declared.entries.EntryBody.{EntryBody}
use Rattle.rsl_chain.specs.declared.entries.EntryBody.TheVariants.{Reference, Annotation}
use Rattle.judging.specs.Verdicts.{verdict_of}
use Rattle.judging.specs.declared.verdicts.EntryVerdict.{EntryVerdict}
use Rattle.judging.specs.declared.verdicts.EntryVerdict.TheVariants.{Refused}
use Rattle.judging.specs.declared.verdicts.Verdict.TheVariants.{Violation}
use Rattle.entry_rules.specs.RealRules.{real_rules}
use Rattle.entry_rules.specs.declared.faults.Fault.{Fault}
use Rattle.verify_ref.specs.Lines.{line}
use Rattle.pushes.specs.declared.pushed.Push.{Push}
use Rattle.pushes.specs.Steps.{change_of, entry_refs}
use Rattle.pushes.specs.declared.rows.Row.{Row}

-- the references that an entry moves: its own, and the log's, which comes last
abbrev pub refs_of : Entry → List RefChange
refs_of entry = entry_refs entry.body ++ record { name = log_name; to = Some entry.id } ∷ []

-- the change of a push beside a log that has these ids
abbrev pub change_beside : (List ℕ → Bool) → Push → Change
change_beside has push = record {
  objects = filter (λ pair. not (has (pair_id pair))) push.objects;
  refs = refs_of push.entry;
}

-- the push's entry, to be judged in the repository that the push would make
abbrev pub taken_of : List Row → Repository → Push → Taken
taken_of rows r push = record { entry = push.entry; repository = changed (change_of rows push) r }

-- what is answered of it behind these entries; no anchor is set
abbrev pub verdict_on : List Taken → List Row → Repository → Push → EntryVerdict Fault
verdict_on log rows r push = verdict_of (real_rules None) log (taken_of rows r push)

-- it is refused for no fault
abbrev pub IsAllowed : List Taken → List Row → Repository → Push → Type 0
IsAllowed log rows r push = (fault : Fault) → verdict_on log rows r push ≡ Refused fault → ⊥

-- the line of a violation, which is told of an entry of a reference; an annotation has none
abbrev pub line_by : EntryBody → ℕ → Fault → Option (List ℕ)
line_by (Reference name target) number fault = Some (line name (Violation number fault))
line_by (Annotation ids skip message) number fault = None

abbrev pub line_of : Entry → Fault → Option (List ℕ)
line_of entry fault = line_by entry.body entry.number fault
