use Rattle.std.proofs.Common.{◌≡◌, ℕ, List, true, false, inr, ap, subst, ◌∙◌}
use Rattle.std.specs.Prelude.{Result, Err}
use Rattle.git_object.specs.declared.names.RefFault.{RefFault}
use Rattle.git_object.specs.Names.{IsRefName, log_name}
use Rattle.desk_messages.specs.declared.requests.Asked.TheVariants as ask
use Rattle.desk_messages.proofs.Verdicts.{no_name, other_name}
use Rattle.desk_messages.proofs.answering.ask_verdict.Goals as goal

pub returns-else-same_bytes-clause-asked : goal.returns-else-same_bytes-clause-asked
returns-else-same_bytes-clause-asked c =
    let name = c.args.name.now in
    let found : c.in-Ok.read ≡ name = c.in-Ok.ensures.found in
    let other : name ≡ log_name → ⊥ =
    (λ same. let yes : c.same_bytes.result ≡ true = c.same_bytes.ensures.1 same in let no : c.same_bytes.result ≡ false = c.if-same_bytes.false in cc) in
    inr (ap (λ (n : List ℕ). ask.Verify n) found ∙ other_name name (subst IsRefName found c.in-Ok.ensures.valid) other)

pub returns-in-Err-BadRef-clause-asked : goal.returns-in-Err-BadRef-clause-asked
returns-in-Err-BadRef-clause-asked c =
    let refused : RefFault → Result (List ℕ) RefFault = λ f. Err f in
    inr (no_name c.args.name.now (λ valid. c.in-Err-BadRef.ensures.bad (ap refused c.in-Err-BadRef.field-0-is) valid))
