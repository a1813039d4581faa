-- A judged log with one entry more.
use Rattle.std.proofs.Common.{◌≡◌, ◌+◌, ◌&&◌, ◌++◌, ℕ, suc, Bool, true, false, cond, is_none, is_some, List, [], ◌∷◌, Option, Some, None, length, map, refl, ap, sym, ◌∙◌, arith}
use Rattle.std.specs.Str.{bytes_eq}
use Rattle.std.proofs.lemmas.List.{length-map}
use Rattle.git_object.specs.References.{policy_name}
use Rattle.rsl_chain.specs.Entries.{Taken, is_of, target_of}
use Rattle.rsl_chain.specs.declared.entries.EntryBody.{EntryBody}
use Rattle.rsl_chain.specs.declared.entries.EntryBody.TheVariants.{Reference, Annotation}
use Rattle.judging.specs.Engines.{Stands, taken}
use Rattle.judging.specs.declared.engine.Engine as judging
use Rattle.judging.specs.Logs.{attested_after, body_signers, fault_of, from, last_signers, opened, ordinary_signers, policy_after, signers_of}
use Rattle.judging.specs.Rules.{Rules}
use Rattle.judging.specs.Verdicts.{body_verdict, verdict_of}
use Rattle.judging.specs.declared.verdicts.EntryVerdict.{EntryVerdict}
use Rattle.judging.proofs.Takes.{attested_push, policy_push, signers_push}
use Rattle.policy_changes.specs.Names.{with_body}
use Rattle.policy_changes.proofs.LogNaming.{names_push}
use Rattle.policy_epochs.specs.declared.policies.Policy.{Policy}
use Rattle.policy_changes.specs.Persons.{persons_of}
use Rattle.policy_changes.proofs.Naming.{nobody}
use Rattle.entry_rules.specs.RealRules.{real_rules}
use Rattle.entry_rules.specs.declared.faults.Fault.{Fault}
use Rattle.verify_ref.specs.Following.{Follows, TakesOne}
use Rattle.verify_ref.specs.declared.engine.Engine.{Engine}
use Rattle.account_lines.specs.declared.rows.EntryRow.{EntryRow}
use Rattle.accounts.specs.Judging.{StandsFor}
use Rattle.judged_logs.specs.Keeping.{Knows}
use Rattle.accounts.specs.Rows.{changed_of, counted_by, epoch_of, from_of, prior_of, row_of, rows_of, signer_in}
use Rattle.accounts.specs.Steps.{attested_then, is_authorised}
use Rattle.accounts.specs.declared.judged_log.JudgedLog.{JudgedLog}
use Rattle.accounts.proofs.Rowed.{epoch_more, rows_more}

pub authorised_is : (body : EntryBody) (fault : Option Fault) → (is_of body policy_name && is_authorised (body_verdict fault body)) ≡ (is_of body policy_name && is_none fault)
authorised_is (Reference name target) None = refl
authorised_is (Reference name target) (Some fault) = refl
authorised_is (Annotation ids skip message) fault = refl

pub all_taken : (rules : Rules Policy Fault) (log : List Taken) (entries : judging.Engine Policy Fault) → Stands rules log entries → taken entries ≡ length log
all_taken rules log entries stands =
    let targets : Taken → List ℕ = λ t. target_of t.entry.body in
    let many : length (map targets log) ≡ length log = length-map log targets in
    ap length stands.targets ∙ many

pub taken_long : (log : List Taken) (engine : Engine) → Follows log engine → taken engine.entries ≡ length log
taken_long log engine follows = all_taken (real_rules engine.rules.anchor) log engine.entries follows

-- an entry of the policy's reference changes the policy, and no keys count for it
no_persons : (b : Bool) (was now : Option Policy) (keys : List (List ℕ)) → persons_of (cond b now was) (cond b [] keys) ≡ persons_of was (cond b [] keys)
no_persons true was now keys = nobody now ∙ sym (nobody was)
no_persons false was now keys = refl

same_persons : (rules : Rules Policy Fault) (log : List Taken) (t : Taken) (body : EntryBody) (signer : Option (List ℕ)) (was now : Option Policy)
    → persons_of (cond (is_of body policy_name) now was) (counted_by body signer (body_signers rules log t body))
    ≡ persons_of was (counted_by body signer (body_signers rules log t body))
same_persons rules log t (Reference name target) signer was now =
    no_persons (bytes_eq name policy_name) was now (ordinary_signers rules (policy_after rules log) t (from rules log name) (attested_after log))
same_persons rules log t (Annotation ids skip message) signer was now = refl

-- what is known of an entry, field by field
pub record IsRowFound (anchor : Option (List (List ℕ))) (log : List Taken) (t : Taken) (row : EntryRow) : Type 0 where
  pub id : row.id ≡ t.entry.id
  pub epoch : row.epoch ≡ epoch_of (real_rules anchor) log
  pub prior : row.prior ≡ prior_of (real_rules anchor) log t.entry.body
  pub from : row.from ≡ from_of (real_rules anchor) log t.entry.body
  pub signed : row.signed ≡ is_some (signer_in (policy_after (real_rules anchor) log) t.entry)
  pub signers : row.signers ≡ signers_of (real_rules anchor) log t
  pub persons : row.persons ≡ persons_of (policy_after (real_rules anchor) (log ++ t ∷ []))
      (counted_by t.entry.body (signer_in (policy_after (real_rules anchor) log) t.entry) row.signers)
  pub verdict : row.verdict ≡ verdict_of (real_rules anchor) log t
  pub changed : row.changed ≡ changed_of (real_rules anchor) log t

pub row_found : (anchor : Option (List (List ℕ))) (log : List Taken) (t : Taken) (row : EntryRow) → IsRowFound anchor log t row → row ≡ row_of anchor log t
row_found anchor log t row found =
    let rules = real_rules anchor in
    let signer = signer_in (policy_after rules log) t.entry in
    let persons : row.persons ≡ persons_of (policy_after rules log) (counted_by t.entry.body signer (signers_of rules log t)) =
    found.persons
    ∙ ap (λ (ks : List (List ℕ)). persons_of (policy_after rules (log ++ t ∷ [])) (counted_by t.entry.body signer ks)) found.signers
    ∙ ap (λ (p : Option Policy). persons_of p (counted_by t.entry.body signer (signers_of rules log t))) (policy_push rules log t)
    ∙ same_persons rules log t t.entry.body signer (policy_after rules log)
    (opened rules (policy_after rules log) (rules.epoch t.repository (policy_after rules log) t.entry)) in
    λ i. record {
      id = found.id i;
      epoch = found.epoch i;
      prior = found.prior i;
      from = found.from i;
      signed = found.signed i;
      signers = found.signers i;
      persons = persons i;
      verdict = found.verdict i;
      changed = found.changed i;
    }

-- the last entry that brought a policy into force, with one entry more
pub epoch_found : (rules : Rules Policy Fault) (log : List Taken) (t : Taken) (was now : Option ℕ) (number : ℕ) (opens : Bool) → number ≡ suc (length log)
    → was ≡ epoch_of rules log → opens ≡ (is_of t.entry.body policy_name && is_none (fault_of rules log (Some t))) → now ≡ cond opens (Some number) was → now ≡ epoch_of rules (log ++ t ∷ [])
epoch_found rules log t was now number opens number_is was_is opens_is is =
    is ∙ ap (λ (b : Bool). cond b (Some number) was) opens_is
    ∙ ap (λ (n : ℕ). cond (is_of t.entry.body policy_name && is_none (fault_of rules log (Some t))) (Some n) was) number_is
    ∙ ap (λ (e : Option ℕ). cond (is_of t.entry.body policy_name && is_none (fault_of rules log (Some t))) (Some (suc (length log))) e) was_is
    ∙ sym (epoch_more rules log t)

-- what was found of an entry before it was taken, and what was answered then
pub record IsFound (log : List Taken) (t : Taken) (was now : JudgedLog) (row : EntryRow) : Type 0 where
  pub rules : now.engine.rules ≡ was.engine.rules
  pub takes : TakesOne log t now.engine row.verdict
  pub number : t.entry.number ≡ taken was.engine.entries + 1
  pub opened : now.epoch ≡ cond (is_of t.entry.body policy_name && is_authorised row.verdict) (Some t.entry.number) was.epoch
  pub id : row.id ≡ t.entry.id
  pub epoch : row.epoch ≡ was.epoch
  pub prior : row.prior ≡ prior_of (real_rules was.engine.rules.anchor) log t.entry.body
  pub from : row.from ≡ from_of (real_rules was.engine.rules.anchor) log t.entry.body
  pub signed : row.signed ≡ is_some (signer_in (policy_after (real_rules was.engine.rules.anchor) log) t.entry)
  pub signers : row.signers ≡ last_signers (real_rules now.engine.rules.anchor) (log ++ t ∷ [])
  pub persons : row.persons ≡ persons_of (policy_after (real_rules now.engine.rules.anchor) (log ++ t ∷ []))
      (counted_by t.entry.body (signer_in (policy_after (real_rules was.engine.rules.anchor) log) t.entry) row.signers)
  pub changed : row.changed ≡ changed_of (real_rules was.engine.rules.anchor) log t
  pub rows : now.rows ≡ was.rows ++ row ∷ []
  pub attested : now.attested ≡ attested_then was.attested t.entry.body
  pub names : now.names ≡ with_body was.names t.entry.body
  pub later : Knows (real_rules now.engine.rules.anchor) (log ++ t ∷ []) now.later

module _ (log : List Taken) (t : Taken) (was now : JudgedLog) (row : EntryRow) (stands : StandsFor log was) (found : IsFound log t was now row) where
  anchor : Option (List (List ℕ))
  anchor = now.engine.rules.anchor

  same : was.engine.rules.anchor ≡ now.engine.rules.anchor
  same = sym (ap (λ rules. rules.anchor) found.rules)

  epoch_was : was.epoch ≡ epoch_of (real_rules now.engine.rules.anchor) log
  epoch_was = stands.epoch ∙ ap (λ (a : Option (List (List ℕ))). epoch_of (real_rules a) log) same

  row_is : row ≡ row_of now.engine.rules.anchor log t
  row_is =
      let rules = real_rules now.engine.rules.anchor in
      row_found now.engine.rules.anchor log t row (record {
        id = found.id;
        epoch = found.epoch ∙ epoch_was;
        prior = found.prior ∙ ap (λ (a : Option (List (List ℕ))). prior_of (real_rules a) log t.entry.body) same;
        from = found.from ∙ ap (λ (a : Option (List (List ℕ))). from_of (real_rules a) log t.entry.body) same;
        signed = found.signed ∙ ap (λ (a : Option (List (List ℕ))). is_some (signer_in (policy_after (real_rules a) log) t.entry)) same;
        signers = found.signers ∙ signers_push rules log t;
        persons = found.persons
            ∙ ap (λ (a : Option (List (List ℕ))). persons_of (policy_after rules (log ++ t ∷ []))
            (counted_by t.entry.body (signer_in (policy_after (real_rules a) log) t.entry) row.signers)) same;
        verdict = found.takes.answer;
        changed = found.changed ∙ ap (λ (a : Option (List (List ℕ))). changed_of (real_rules a) log t) same;
      })

  epoch_is : now.epoch ≡ epoch_of (real_rules now.engine.rules.anchor) (log ++ t ∷ [])
  epoch_is =
      let rules = real_rules now.engine.rules.anchor in
      let long = taken_long log was.engine stands.follows in
      let before = found.number in
      let number : t.entry.number ≡ suc (length log) = omega arith in
      epoch_found rules log t was.epoch now.epoch t.entry.number (is_of t.entry.body policy_name && is_authorised row.verdict) number epoch_was
      (ap (λ (v : EntryVerdict Fault). is_of t.entry.body policy_name && is_authorised v) found.takes.answer ∙ authorised_is t.entry.body (fault_of rules log (Some t))) found.opened

  pub stands_more : StandsFor (log ++ t ∷ []) now
  stands_more = record {
    follows = found.takes.follows;
    epoch = epoch_is;
    later = found.later;
    attested = found.attested ∙ ap (λ (a : Option (List ℕ)). attested_then a t.entry.body) stands.attested ∙ sym (attested_push (real_rules now.engine.rules.anchor) log t);
    names = found.names ∙ ap (λ (ns : List (List ℕ)). with_body ns t.entry.body) stands.names ∙ sym (names_push log t);
    rows = found.rows ∙ ap (λ (rows : List EntryRow). rows ++ row ∷ []) (stands.rows ∙ ap (λ (a : Option (List (List ℕ))). rows_of a log) same)
        ∙ ap (λ (r : EntryRow). rows_of now.engine.rules.anchor log ++ r ∷ []) row_is ∙ sym (rows_more now.engine.rules.anchor log t);
  }
