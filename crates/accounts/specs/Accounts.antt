-- The account of a repository: a line for each entry of its log, judged in the repository, and for each verdict.
use Rattle.std.specs.Prelude.{◌≡◌, ◌+◌, [], ℕ, Bool, true, false, List, length, Option, Some, None}
use Rattle.git_object.specs.Ids.{zeros}
use Rattle.git_object.specs.Repository.{Repository}
use Rattle.rsl_chain.specs.Entries.{Taken}
use Rattle.rsl_chain.specs.Logs.{IsLogOf}
use Rattle.rsl_chain.specs.declared.entries.Entry.{Entry}
use Rattle.rsl_chain.specs.declared.entries.EntryBody.TheVariants.{Reference}
use Rattle.recovery.specs.Lanes.{first_of}
use Rattle.judging.specs.Logs.{before, entry_at, policy_after, prior, prior_target}
use Rattle.judging.specs.Rules.{Rules}
use Rattle.judging.specs.Verdicts.{answer_of}
use Rattle.judging.specs.declared.verdicts.Verdict.{Verdict}
use Rattle.judging.specs.declared.verdicts.Verdict.TheVariants.{Accepted, TipDiffers, Violation}
use Rattle.judged_logs.specs.Mends.{mend_of}
use Rattle.policy_epochs.specs.declared.policies.Policy.{Policy}
use Rattle.policy_changes.specs.declared.changes.PolicyChange.{PolicyChange}
use Rattle.entry_rules.specs.RealRules.{real_rules}
use Rattle.entry_rules.specs.declared.faults.Fault.{Fault}
use Rattle.verify_ref.specs.Logs.{AreEntries}
use Rattle.verify_ref.specs.Verdicts.{IsVerdict}
use Rattle.judged_logs.specs.Firsts.{rescuer_of, skipper_of}
use Rattle.would_be.specs.Laws.{stood_at}
use Rattle.would_be.specs.Would.{IsWould}
use Rattle.would_be.specs.declared.proposals.Proposed.{Proposed}
use Rattle.would_be.specs.declared.proposals.Would.{Would}
use Rattle.policy_changes.specs.Persons.{persons_of}
use Rattle.account_lines.specs.Lines.{entry_line, unrecorded_line, verdict_line, violation_line}
use Rattle.account_lines.specs.declared.rows.EntryRow.{EntryRow}
use Rattle.account_lines.specs.declared.rows.Later.{Later}
use Rattle.accounts.specs.Rows.{epoch_of, row_of}
use Rattle.accounts.specs.Steps.{would_change}
use Rattle.accounts.specs.Unrecorded.{is_unrecorded}

-- what later entries of a log make of the entry of a number
abbrev pub later_of : Option (List (List ℕ)) → List Taken → ℕ → Later
later_of anchor log number = record {
  skipper = skipper_of (real_rules anchor) log number;
  rescuer = rescuer_of (real_rules anchor) log number;
}

-- the line of the entry of a number of a log, which this is: what is known of it by the entries before it, and what
-- later ones make of it
abbrev pub line_of : Option (List (List ℕ)) → List Taken → ℕ → Taken → List ℕ
line_of anchor log number t = entry_line t.entry (row_of anchor (before log number) t) (later_of anchor log number)

-- this is the line of the entry of a number
pub record IsLine (anchor : Option (List (List ℕ))) (log : List Taken) (number : ℕ) (text : List ℕ) : Type 0 where
  pub t : Taken
  pub there : entry_at log number ≡ Some t
  pub is : text ≡ line_of anchor log number t

-- the repository has a log, and this is the line of its entry of a number
pub record IsLineOf (anchor : Option (List (List ℕ))) (r : Repository) (number : ℕ) (text : List ℕ) : Type 0 where
  pub ids : List (List ℕ)
  pub is_log : IsLogOf r ids
  pub log : List Taken
  pub entries : AreEntries r ids log
  pub line : IsLine anchor log number text

abbrev pub is_accepted : Verdict Fault → Bool
is_accepted (Accepted count) = true
is_accepted (TipDiffers kept recorded) = false
is_accepted (Violation number fault) = false

-- the line of a verdict, which says where the reference is unrecorded
abbrev pub plain_line : Bool → List ℕ → Verdict Fault → List ℕ
plain_line true name verdict = unrecorded_line name verdict
plain_line false name verdict = verdict_line name verdict

-- the line of a verdict on a reference by a log, a violation with what mends it by the trees of the repository
abbrev pub told_line : Rules Policy Fault → List Taken → Repository → List ℕ → Verdict Fault → List ℕ
told_line rules log r name (Accepted count) = plain_line (is_unrecorded rules log name) name (Accepted count)
told_line rules log r name (TipDiffers kept recorded) =
    plain_line (is_unrecorded rules log name) name (TipDiffers kept recorded)
told_line rules log r name (Violation number fault) =
    violation_line name number fault (mend_of rules log name r number)

-- this line tells the verdict of the repository on a reference, and whether it is accepted
pub record IsToldVerdict (anchor : Option (List (List ℕ))) (r : Repository) (name line : List ℕ)
    (accepted : Bool) : Type 0 where
  pub verdict : Verdict Fault
  pub judged : IsVerdict r name anchor verdict
  pub told : line ≡ told_line (real_rules anchor) judged.log r name verdict
  pub is : accepted ≡ is_accepted verdict

-- ---- an entry behind the log that nobody signed yet

-- the entry of a number
abbrev pub would_entry : ℕ → Proposed → Entry
would_entry number p = record {
  id = zeros;
  number = number;
  parent = None;
  body = Reference p.name p.target;
  signer = None;
  signature = [];
  signed = [];
}

-- what is known of it behind these entries, by what would be found of it and what its policy would change
abbrev pub would_row : Option (List (List ℕ)) → List Taken → Proposed → Would → Option PolicyChange → EntryRow
would_row anchor log p found change = record {
  id = zeros;
  epoch = epoch_of (real_rules anchor) log;
  prior = prior (real_rules anchor) log p.name;
  from = prior_target (real_rules anchor) log p.name;
  signed = false;
  signers = found.signers;
  persons = persons_of (policy_after (real_rules anchor) log) found.signers;
  verdict = answer_of (first_of found.faults);
  changed = change;
}

abbrev pub no_later : Later
no_later = record { skipper = None; rescuer = None }

-- this is found of an entry behind the repository's log, and its line tells it
pub record IsToldWould (anchor : Option (List (List ℕ))) (r : Repository) (p : Proposed) (found : Would)
    (number : ℕ) (line : List ℕ) : Type 0 where
  pub ids : List (List ℕ)
  pub is_log : IsLogOf r ids
  pub log : List Taken
  pub entries : AreEntries r ids log
  pub next : number ≡ length log + 1
  pub is : IsWould anchor r (policy_after (real_rules anchor) log) (stood_at anchor log p.name) p found
  pub told : line ≡ entry_line (would_entry number p) (would_row anchor log p found
      (would_change (policy_after (real_rules anchor) log) r p)) no_later
