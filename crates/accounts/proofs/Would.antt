-- What would be found of an entry behind a judged log, as it is told.
use Rattle.std.proofs.Common.{◌≡◌, ◌+◌, ◌∙◌, ℕ, false, List, [], ◌∷◌, Option, length, refl, ap, subst}
use Rattle.std.specs.Prelude.{slice_get, unwrap_or}
use Rattle.git_object.specs.Ids.{zeros}
use Rattle.git_object.specs.Repository.{Repository}
use Rattle.rsl_chain.specs.Entries.{Taken}
use Rattle.recovery.specs.Lanes.{first_of}
use Rattle.judging.specs.Logs.{policy_after, prior, prior_target}
use Rattle.judging.specs.Verdicts.{answer_of}
use Rattle.policy_epochs.specs.declared.policies.Policy.{Policy}
use Rattle.policy_changes.specs.Persons.{persons_of}
use Rattle.entry_rules.specs.RealRules.{real_rules}
use Rattle.entry_rules.specs.declared.faults.Fault.{Fault}
use Rattle.would_be.specs.Laws.{stood_at}
use Rattle.would_be.specs.Would.{IsWould}
use Rattle.would_be.specs.declared.proposals.Proposed.{Proposed}
use Rattle.would_be.specs.declared.proposals.Stood.{Stood}
use Rattle.would_be.specs.declared.proposals.Would.{Would}
use Rattle.account_lines.specs.Lines.{entry_line}
use Rattle.account_lines.specs.declared.rows.EntryRow.{EntryRow}
use Rattle.accounts.specs.Accounts.{IsToldWould, no_later, would_entry, would_row}
use Rattle.accounts.specs.Judging.{IsJudgedLog, StandsFor}
use Rattle.accounts.specs.Steps.{would_change}
use Rattle.policy_changes.specs.declared.changes.PolicyChange.{PolicyChange}
use Rattle.accounts.specs.declared.judged_log.JudgedLog.{JudgedLog}
use Rattle.accounts.proofs.Rowed.{as_many}

pub first_is : (xs : List Fault) → slice_get xs 0 ≡ first_of xs
first_is [] = refl
first_is (x ∷ xs) = refl

-- what is known of it, and where its reference stands
module _ (judged : JudgedLog) (log : List Taken) (stands : StandsFor log judged) where
  pub row_is : (p : Proposed) (found : Would) (row : EntryRow) → row.id ≡ zeros → row.epoch ≡ judged.epoch → row.prior ≡ prior (real_rules judged.engine.rules.anchor) log p.name
      → row.from ≡ prior_target (real_rules judged.engine.rules.anchor) log p.name → row.signed ≡ false → row.signers ≡ found.signers
      → row.persons ≡ persons_of (policy_after (real_rules judged.engine.rules.anchor) log) found.signers → row.verdict ≡ answer_of (first_of found.faults)
      → row ≡ would_row judged.engine.rules.anchor log p found row.changed
  row_is p found row id epoch before from signed signers persons verdict =
      let last = epoch ∙ stands.epoch in
      λ i. record { id = id i; epoch = last i; prior = before i; from = from i; signed = signed i; signers = signers i; persons = persons i; verdict = verdict i; changed = row.changed }

  pub stood_is : (name : List ℕ) (from : Option (List ℕ)) (stood : Stood) → from ≡ prior_target (real_rules judged.engine.rules.anchor) log name
      → stood.from ≡ unwrap_or from zeros → stood.attested ≡ judged.attested → stood ≡ stood_at judged.engine.rules.anchor log name
  stood_is name from stood is at attested =
      let put = at ∙ ap (λ (o : Option (List ℕ)). unwrap_or o zeros) is in
      let last = attested ∙ stands.attested in
      λ i. record { from = put i; attested = last i }

module _ (anchor : Option (List (List ℕ))) (r : Repository) (judged : JudgedLog) (is : IsJudgedLog anchor r judged) (p : Proposed) where
  pub told_would : (stood : Stood) (policy : Option Policy) (found : Would) (change : Option PolicyChange) (number : ℕ) (line : List ℕ) → stood ≡ stood_at judged.engine.rules.anchor is.log p.name
      → policy ≡ policy_after (real_rules judged.engine.rules.anchor) is.log → IsWould anchor r policy stood p found → change ≡ would_change policy r p → number ≡ length judged.rows + 1
      → line ≡ entry_line (would_entry number p) (would_row judged.engine.rules.anchor is.log p found change) no_later → IsToldWould anchor r p found number line
  told_would stood policy found change number line stood_is policy_is would changes many told =
      let before : stood ≡ stood_at anchor is.log p.name = stood_is ∙ ap (λ (a : Option (List (List ℕ))). stood_at a is.log p.name) is.anchored in
      let current : policy ≡ policy_after (real_rules anchor) is.log = policy_is ∙ ap (λ (a : Option (List (List ℕ))). policy_after (real_rules a) is.log) is.anchored in
      record {
        ids = is.ids;
        is_log = is.is_log;
        log = is.log;
        entries = is.entries;
        next = many ∙ ap (λ (rows : List EntryRow). length rows + 1) is.stands.rows ∙ ap (λ (n : ℕ). n + 1) (as_many judged.engine.rules.anchor is.log);
        is = subst (λ (q : Option Policy). IsWould anchor r q (stood_at anchor is.log p.name) p found) current (subst (λ (s : Stood). IsWould anchor r policy s p found) before would);
        told = told ∙ (ap (λ (a : Option (List (List ℕ))). entry_line (would_entry number p) (would_row a is.log p found change) no_later) is.anchored
            ∙ ap (λ (o : Option PolicyChange). entry_line (would_entry number p) (would_row anchor is.log p found o) no_later)
            (changes ∙ ap (λ (q : Option Policy). would_change q r p) current));
      }
