use Rattle.std.proofs.Common.{sym, subst}
use Rattle.leaf_journal.specs.Opening.{WhyUnopened}
use Rattle.leaf_journal.specs.declared.open_keys.OpenFault.{OpenFault}
use Rattle.leaf_journal.proofs.KeyReading.{not_opened}
use Rattle.leaf_journal.proofs.open_keys.open_key.Goals as goal

pub returns-in-Err-clause-why : goal.returns-in-Err-clause-why
returns-in-Err-clause-why g c = λ file told.
    subst (λ (f : OpenFault). WhyUnopened f file) (sym c.open_fault.ensures) (not_opened c.in-Err.fault file (c.in-Err.ensures.why file told))
