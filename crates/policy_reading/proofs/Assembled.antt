-- What assembling answers, by the first fault of the files.
use Rattle.std.proofs.Common.{◌≡◌, ◌≢◌, ◌⊎◌, List, Option, Some, None, Ok, Err, refl, sym, ap, ◌∙◌, inl, inr}
use Rattle.rule_files.specs.declared.rules.RuleFile.{RuleFile}
use Rattle.rule_delegations.specs.Assembling.{HasFault, IsFirstFault}
use Rattle.rule_delegations.specs.declared.assembling.AssembleFault.{AssembleFault}
use Rattle.rule_delegations.specs.declared.assembling.AssembleFault.TheVariants as refusal
use Rattle.rule_delegations.proofs.Lawful.{one_fault}
use Rattle.policy_epochs.specs.declared.faults.PolicyFault.{PolicyFault}
use Rattle.policy_epochs.specs.declared.faults.PolicyFault.TheVariants.{Forest}
use Rattle.policy_reading.specs.Deciding.{first_fault, first_fault-is}
use Rattle.policy_reading.specs.Validity.{assembled, assembled_by}

no_fault : (files : List RuleFile) → ((fault : AssembleFault) → HasFault files fault → ⊥) → first_fault files ≡ None
no_fault files none = by_first (first_fault files) (first_fault-is files) where
  by_first : (found : Option AssembleFault) → IsFirstFault files found → found ≡ None
  by_first None is = refl
  by_first (Some fault) is = absurd (none fault is)

the_fault : (files : List RuleFile) (why : AssembleFault) → HasFault files why → first_fault files ≡ Some why
the_fault files why has = by_first (first_fault files) (first_fault-is files) where
  by_first : (found : Option AssembleFault) → IsFirstFault files found → found ≡ Some why
  by_first None is = absurd (is.1 why has)
  by_first (Some fault) is = ap Some (one_fault files fault why is has)

pub assembled_files : (files rules : List RuleFile) → rules ≡ files → ((fault : AssembleFault) → HasFault files fault → ⊥) → Ok rules ≡ assembled files
unfolding assembled
assembled_files files rules same none = ap Ok same ∙ ap (assembled_by files) (sym (no_fault files none))

pub assembled_fault : (files : List RuleFile) (why : AssembleFault) (fault : PolicyFault) → fault ≡ Forest why → why ≢ refusal.Memory → (why ≡ refusal.Memory) ⊎ HasFault files why → Err fault ≡ assembled files
unfolding assembled
assembled_fault files why fault told other refused = elim refused [
  | inl memory ↦ absurd (other memory)
  | inr has ↦ ap Err told ∙ ap (assembled_by files) (sym (the_fault files why has))
]
