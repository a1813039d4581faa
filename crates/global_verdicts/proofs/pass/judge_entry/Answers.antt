use Rattle.std.proofs.Common.{◌++◌, ◌∷◌, [], Option, ap, refl, unwrap_or, ◌∙◌}
use Rattle.rsl_chain.specs.Entries.{Taken}
use Rattle.policy_epochs.specs.declared.policies.Policy.{Policy}
use Rattle.global_rules.specs.declared.found_files.FoundFile.{FoundFile}
use Rattle.global_verdicts.specs.InForce.{opened_found}
use Rattle.global_verdicts.proofs.Taking.{stands_more}
use Rattle.global_verdicts.proofs.pass.judge_entry.Goals as goal

pub returns-clause-stands : goal.returns-clause-stands
returns-clause-stands g c = λ r told log stands.
    let t : Taken = record { entry = c.args.entry.now; repository = r } in
    let after_row = c.opened_found.ensures.same.content r told in
    let after_take = c.row_of.ensures.same.content r after_row in
    let takes = c.in_ok-verdict.ensures.taken r log after_take stands.follows in
    stands_more log t c.args.pass.now (record { name = c.args.pass.now.name; engine = c.extend.new.self; file = c.put_found.new.file; rows = c.push.new.self })
    c.stands_at-from.result c.in_ok-verdict.verdict c.in_ok-row.row stands (record {
      rules = c.extend.ensures.rules;
      name = refl;
      takes = takes;
      stood_is = c.stands_at-from.ensures log stands.follows;
      found = c.put_found.ensures ∙ ap (λ (o : Option FoundFile). unwrap_or o c.args.pass.now.file) (c.in_ok-opened.ensures.found r told ∙ ap (λ (p : Option Policy). opened_found r p c.args.entry.now.body c.in_ok-verdict.verdict) (c.policy.ensures (log ++ t ∷ []) takes.follows));
      row_by = c.in_ok-row.ensures.row r (log ++ t ∷ []) after_row takes.follows;
      rows = c.in_ok-push.ensures.added;
    })
