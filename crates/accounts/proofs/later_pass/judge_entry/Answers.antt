use Rattle.std.proofs.Common.{◌≡◌, ◌≤◌, ◌++◌, [], ◌∷◌, ℕ, Bool, List, Option, Some, cond, refl, ap, sym, subst, ◌∙◌, arith}
use Rattle.std.specs.Option.{option_copied}
use Rattle.git_object.specs.References.{policy_name}
use Rattle.rsl_chain.specs.Entries.{Taken, is_of}
use Rattle.judging.specs.Engines.{IsTaken, Stands}
use Rattle.judging.specs.Logs.{policy_after, signers_of}
use Rattle.judging.specs.Verdicts.{verdict_of}
use Rattle.judging.proofs.Takes.{signers_push}
use Rattle.judging.specs.declared.engine.Engine as judging
use Rattle.policy_changes.specs.Persons.{persons_of}
use Rattle.judged_logs.specs.Keeping.{AreOpen}
use Rattle.judged_logs.specs.LaterRules.{rules_from}
use Rattle.judged_logs.proofs.Later.{late_signers, late_verdict}
use Rattle.policy_epochs.specs.declared.policies.Policy.{Policy}
use Rattle.entry_rules.specs.RealRules.{real_rules}
use Rattle.entry_rules.specs.declared.faults.Fault.{Fault}
use Rattle.account_lines.specs.declared.rows.EntryRow.{EntryRow}
use Rattle.accounts.specs.Later.{FollowsFrom}
use Rattle.accounts.specs.Rows.{counted_by, row_of, signer_in}
use Rattle.accounts.specs.Steps.{apart_signer, said_before}
use Rattle.accounts.proofs.Changing.{changed_found}
use Rattle.accounts.proofs.LaterTaking.{carried, stands_from_more}
use Rattle.accounts.proofs.Signed.{counted_is, signed_found}
use Rattle.accounts.proofs.Taking.{row_found}
use Rattle.accounts.proofs.later_pass.judge_entry.Goals as goal

pub returns-clause-stands : goal.returns-clause-stands
returns-clause-stands g c = λ r told log stands.
    let t : Taken = record { entry = c.args.entry.now; repository = r } in
    let first = c.args.judged.now.engine.first in
    let anchor = c.args.judged.now.engine.rules.anchor in
    let whole = real_rules anchor in
    let rules = rules_from first whole in
    let more = log ++ t ∷ [] in
    let entries : Stands rules log c.entries-entries.result.now = subst (λ (e : judging.Engine Policy Fault). Stands rules log e) (sym c.entries-entries.ensures) stands.follows in
    let takes : IsTaken rules log t c.extend.new.self.entries c.in-Ok.verdict = c.in-Ok.ensures.taken r log told stands.follows in
    let before = c.in_ok-before.before in
    let after = c.in_ok-after.after in
    let signers = c.signers-signers.result.now in
    let begun = c.extend.ensures.first in
    let keys : c.extend.new.self.rules.anchor ≡ anchor = ap (λ rules. rules.anchor) c.extend.ensures.rules in
    let follows : FollowsFrom more c.extend.new.self =
    carried (λ n a. Stands (rules_from n (real_rules a)) more c.extend.new.self.entries) first c.extend.new.self.first anchor c.extend.new.self.rules.anchor (sym begun) (sym keys) takes.stands in
    let row : EntryRow = record {
      id = c.args.entry.now.id;
      epoch = c.args.judged.now.epoch;
      prior = c.prior_of-prior.result;
      from = c.from_of-from.result;
      signed = after.signed;
      signers = after.signers;
      persons = after.persons;
      verdict = c.in-Ok.verdict;
      changed = after.changed;
    } in
    let known : first ≤ c.args.entry.now.number → row ≡ row_of anchor log t = λ late.
    let was : option_copied c.policy_for.result ≡ policy_after whole log = c.policy_for.ensures late log stands.follows in
    let apart : before.apart ≡ apart_signer (policy_after whole log) c.args.entry.now =
    c.in_ok-before.ensures.apart ∙ ap (λ (p : Option Policy). apart_signer p c.args.entry.now) was in
    let late_then : c.extend.new.self.first ≤ c.args.entry.now.number = omega arith in
    let now : option_copied c.policy_for-policy.result ≡ policy_after whole more =
    c.policy_for-policy.ensures late_then more follows ∙ ap (λ (a : Option (List (List ℕ))). policy_after (real_rules a) more) keys in
    let signed : signers ≡ signers_of whole log t =
    c.signers-signers.ensures rules more (subst (λ (e : judging.Engine Policy Fault). Stands rules more e) (sym c.entries.ensures) takes.stands)
    ∙ signers_push rules log t ∙ late_signers first whole log t late in
    let verdict : c.in-Ok.verdict ≡ verdict_of whole log t = takes.answer ∙ late_verdict first whole log t late in
    row_found anchor log t row (record {
      id = refl;
      epoch = stands.epoch;
      prior = c.prior_of-prior.ensures rules log entries;
      from = c.from_of-from.ensures rules log entries;
      signed = signed_found anchor log t (option_copied c.policy_for-policy.result) before.apart before.attested signers after.signed
          now apart (c.in_ok-before.ensures.attested ∙ stands.attested) signed c.in_ok-after.ensures.signed;
      signers = c.in_ok-after.ensures.signers ∙ signed;
      persons = c.in_ok-after.ensures.persons
          ∙ ap (λ (p : Option Policy). persons_of p (counted_by c.args.entry.now.body before.apart signers)) now
          ∙ ap (persons_of (policy_after whole more))
          (ap (λ (s : Option (List ℕ)). counted_by c.args.entry.now.body s signers) apart ∙ counted_is (policy_after whole log) c.args.entry.now signers
          ∙ ap (counted_by c.args.entry.now.body (signer_in (policy_after whole log) c.args.entry.now)) (sym c.in_ok-after.ensures.signers));
      verdict = verdict;
      changed = changed_found whole log t c.in-Ok.verdict c.opens-opens.result before.said (option_copied c.policy_for-policy.result) after.changed
          verdict c.opens-opens.ensures
          (c.in_ok-before.ensures.said ∙ ap (λ (p : Option Policy). said_before p (is_of c.args.entry.now.body policy_name)) was)
          now c.in_ok-after.ensures.changed;
    }) in
    stands_from_more log t c.args.judged.now (record { engine = c.extend.new.self; epoch = c.next_epoch-judged.result; attested = c.next_attested-judged.result; rows = c.push.new.self; later = c.take.new.self }) row stands (record {
      first = begun;
      anchor = keys;
      takes = takes;
      number = c.requires.next;
      opened = c.next_epoch-judged.ensures ∙ ap (λ (b : Bool). cond b (Some c.args.entry.now.number) c.args.judged.now.epoch) c.opens-opens.ensures;
      known = known;
      rows = c.in_ok-push.ensures.added;
      attested = c.next_attested-judged.ensures;
      later = c.in_ok-take.ensures rules log t refl
          (subst (λ (e : judging.Engine Policy Fault). Stands rules more e) (sym c.entries-2.ensures) takes.stands)
          (subst (λ (ns : List ℕ). AreOpen rules log c.args.entry.now.body ns) (sym c.as_slice.ensures) (c.in_ok-numbers.ensures rules log entries))
          stands.later;
    })
