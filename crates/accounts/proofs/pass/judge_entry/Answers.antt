use Rattle.std.proofs.Common.{◌≡◌, ◌++◌, [], ◌∷◌, ℕ, Bool, List, Option, Some, cond, refl, ap, sym, subst, ◌∙◌}
use Rattle.std.specs.Option.{option_copied}
use Rattle.git_object.specs.References.{policy_name}
use Rattle.rsl_chain.specs.Entries.{Taken, is_of}
use Rattle.judging.specs.Engines.{Stands}
use Rattle.judging.specs.Logs.{last_signers, policy_after}
use Rattle.judging.specs.Verdicts.{verdict_of}
use Rattle.judging.proofs.Takes.{signers_push}
use Rattle.policy_changes.specs.Persons.{persons_of}
use Rattle.judging.specs.declared.engine.Engine as judging
use Rattle.judged_logs.specs.Keeping.{AreOpen, Knows}
use Rattle.policy_epochs.specs.declared.policies.Policy.{Policy}
use Rattle.entry_rules.specs.RealRules.{real_rules}
use Rattle.entry_rules.specs.declared.faults.Fault.{Fault}
use Rattle.entry_rules.specs.declared.judge.EntryRules.{EntryRules}
use Rattle.account_lines.specs.declared.rows.EntryRow.{EntryRow}
use Rattle.accounts.specs.Rows.{counted_by, signer_in}
use Rattle.accounts.specs.Steps.{apart_signer, said_before}
use Rattle.accounts.proofs.Changing.{changed_found}
use Rattle.accounts.proofs.Signed.{counted_is, signed_found}
use Rattle.accounts.proofs.Taking.{stands_more}
use Rattle.accounts.proofs.pass.judge_entry.Goals as goal

pub returns-clause-stands : goal.returns-clause-stands
returns-clause-stands g c = λ r told log stands.
    let t : Taken = record { entry = c.args.entry.now; repository = r } in
    let rules = real_rules c.args.judged.now.engine.rules.anchor in
    let entries : Stands rules log c.entries-entries.result.now = subst (λ (e : judging.Engine Policy Fault). Stands rules log e) (sym c.entries-entries.ensures) stands.follows in
    let takes = c.in-Ok.ensures.taken r log told stands.follows in
    let before = c.in_ok-before.before in
    let after = c.in_ok-after.after in
    let signers = c.signers-signers.result.now in
    let apart : before.apart ≡ apart_signer (policy_after rules log) c.args.entry.now =
    c.in_ok-before.ensures.apart ∙ ap (λ (p : Option Policy). apart_signer p c.args.entry.now) (c.policy.ensures log stands.follows) in
    let now : option_copied c.policy-policy.result ≡ policy_after rules (log ++ t ∷ []) =
    c.policy-policy.ensures (log ++ t ∷ []) takes.follows ∙ ap (λ (r : EntryRules). policy_after (real_rules r.anchor) (log ++ t ∷ [])) c.extend.ensures.rules in
    let row : EntryRow = record {
      id = c.args.entry.now.id;
      epoch = c.args.judged.now.epoch;
      prior = c.prior_of-prior.result;
      from = c.from_of-from.result;
      signed = after.signed;
      signers = after.signers;
      persons = after.persons;
      verdict = c.in-Ok.verdict;
      changed = after.changed;
    } in
    stands_more log t c.args.judged.now (record { engine = c.extend.new.self; epoch = c.next_epoch-judged.result; attested = c.next_attested-judged.result; names = c.take-2.new.self; rows = c.push.new.self; later = c.take.new.self }) row stands (record {
      rules = c.extend.ensures.rules;
      takes = takes;
      number = c.requires.next;
      changed = changed_found rules log t c.in-Ok.verdict c.opens-opens.result before.said (option_copied c.policy-policy.result) after.changed
          (takes.answer ∙ ap (λ (r : EntryRules). verdict_of (real_rules r.anchor) log t) c.extend.ensures.rules) c.opens-opens.ensures
          (c.in_ok-before.ensures.said ∙ ap (λ (p : Option Policy). said_before p (is_of c.args.entry.now.body policy_name)) (c.policy.ensures log stands.follows))
          now c.in_ok-after.ensures.changed;
      opened = c.next_epoch-judged.ensures ∙ ap (λ (b : Bool). cond b (Some c.args.entry.now.number) c.args.judged.now.epoch) c.opens-opens.ensures;
      id = refl;
      epoch = refl;
      prior = c.prior_of-prior.ensures rules log entries;
      from = c.from_of-from.ensures rules log entries;
      signed = signed_found c.args.judged.now.engine.rules.anchor log t (option_copied c.policy-policy.result) before.apart before.attested signers after.signed
          now apart (c.in_ok-before.ensures.attested ∙ stands.attested)
          (c.signers-signers.ensures (log ++ t ∷ []) takes.follows ∙ ap (λ (r : EntryRules). last_signers (real_rules r.anchor) (log ++ t ∷ [])) c.extend.ensures.rules ∙ signers_push rules log t)
          c.in_ok-after.ensures.signed;
      persons = c.in_ok-after.ensures.persons
          ∙ ap (λ (p : Option Policy). persons_of p (counted_by c.args.entry.now.body before.apart signers)) (c.policy-policy.ensures (log ++ t ∷ []) takes.follows)
          ∙ ap (persons_of (policy_after (real_rules c.extend.new.self.rules.anchor) (log ++ t ∷ [])))
          (ap (λ (s : Option (List ℕ)). counted_by c.args.entry.now.body s signers) apart ∙ counted_is (policy_after rules log) c.args.entry.now signers
          ∙ ap (counted_by c.args.entry.now.body (signer_in (policy_after rules log) c.args.entry.now)) (sym c.in_ok-after.ensures.signers));
      signers = c.in_ok-after.ensures.signers ∙ c.signers-signers.ensures (log ++ t ∷ []) takes.follows;
      rows = c.in_ok-push.ensures.added;
      attested = c.next_attested-judged.ensures;
      names = c.in_ok-take-2.ensures.added;
      later = subst (λ (r : EntryRules). Knows (real_rules r.anchor) (log ++ t ∷ []) c.take.new.self) (sym c.extend.ensures.rules)
          (c.in_ok-take.ensures rules log t refl
          (subst (λ (e : judging.Engine Policy Fault). Stands rules (log ++ t ∷ []) e) (sym c.entries.ensures)
          (subst (λ (r : EntryRules). Stands (real_rules r.anchor) (log ++ t ∷ []) c.extend.new.self.entries) c.extend.ensures.rules takes.follows))
          (subst (λ (ns : List ℕ). AreOpen rules log c.args.entry.now.body ns) (sym c.as_slice.ensures)
          (c.in_ok-numbers.ensures rules log entries))
          stands.later);
    })
