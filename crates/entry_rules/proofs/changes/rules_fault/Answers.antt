use Rattle.std.proofs.Common.{◌≡◌, None, ap, sym, ◌∙◌}
use Rattle.std.proofs.lemmas.Result.{IfOk-weaker}
use Rattle.root_metadata.specs.Judged.{or_next}
use Rattle.entry_rules.specs.Changing.{least_unmet}
use Rattle.entry_rules.specs.Faults.{path_fault, ref_fault}
use Rattle.entry_rules.proofs.Leasts.{first_unmet_is}
use Rattle.entry_rules.proofs.changes.rules_fault.Goals as goal

pub returns-in-None : goal.returns-in-None
returns-in-None c = IfOk-weaker c.path_fault.result _ _ (λ fault is s t are.
    let rules = c.args.rules.now in
    let signers = c.args.signers.now in
    let met : None ≡ ref_fault rules c.args.name.now signers = sym c.in-None.is ∙ c.in_ok-fault.ensures in
    is ∙ ap (path_fault rules signers) (first_unmet_is rules signers s t c.args.paths.now are)
    ∙ ap (λ o. or_next o (path_fault rules signers (least_unmet rules signers s t))) met) c.path_fault.ensures
