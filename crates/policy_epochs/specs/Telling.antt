-- The faults of policies as verdicts tell them, each name as one printable word.
use Rattle.std.specs.Prelude.{◌++◌, ℕ, List, codes, decimal}
use Rattle.octets.specs.Escaped.{escaped}
use Rattle.rule_delegations.specs.declared.assembling.AssembleFault.{AssembleFault}
use Rattle.rule_delegations.specs.declared.assembling.AssembleFault.TheVariants as why
use Rattle.policy_epochs.specs.declared.faults.PolicyFault.{PolicyFault}
use Rattle.policy_epochs.specs.declared.faults.PolicyFault.TheVariants as fault

-- why rule files are no rules of a policy; the last never stands in a fault of a policy
abbrev pub forest_text : AssembleFault → List ℕ
forest_text (why.DuplicateName name) = codes "duplicate-name " ++ escaped name
forest_text (why.Unreachable name) = codes "unreachable " ++ escaped name
forest_text (why.TooDeep name) = codes "too-deep " ++ escaped name
forest_text (why.TooMany count) = codes "too-many"
forest_text why.Memory = codes "memory"

abbrev pub fault_text : PolicyFault → List ℕ
fault_text fault.Unreadable = codes "unreadable"
fault_text fault.NoRoot = codes "no-root"
fault_text (fault.BadFile file) = codes "bad-file " ++ escaped file
fault_text (fault.RootThreshold got need) = codes "root-threshold " ++ decimal got ++ codes " of " ++ decimal need
fault_text (fault.Forest forest) = forest_text forest
fault_text (fault.FileThreshold file got need) = codes "file-threshold " ++ escaped file ++ codes " " ++ decimal got
    ++ codes " of " ++ decimal need
fault_text fault.Anchor = codes "anchor"
fault_text (fault.RootVersion old new) = codes "root-version " ++ decimal old ++ codes " " ++ decimal new
fault_text (fault.RootSuccession got need) = codes "root-succession " ++ decimal got ++ codes " of " ++ decimal need
fault_text (fault.FileVersion file) = codes "file-version " ++ escaped file
fault_text (fault.FileDropped file) = codes "file-dropped " ++ escaped file
