-- The first fault of rule files as a function of them, which a law singles out.
use Rattle.std.specs.Prelude.{List, Option}
use Rattle.rule_files.specs.declared.rules.RuleFile.{RuleFile}
use Rattle.rule_delegations.specs.Assembling.{IsFirstFault}
use Rattle.rule_delegations.specs.declared.assembling.AssembleFault.{AssembleFault}
use Rattle.rule_delegations.proofs.Faulty.{faults_are}

-- the first fault of rule files, or that they have none: `laws.first_fault` says that it is theirs
pub first_fault : List RuleFile → Option AssembleFault
first_fault files = (faults_are files).0

pub first_fault-is : (files : List RuleFile) → IsFirstFault files (first_fault files)
unfolding first_fault
first_fault-is files = (faults_are files).1
