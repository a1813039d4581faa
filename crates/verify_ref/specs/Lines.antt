-- The line that tells the verdict on a reference.
use Rattle.std.specs.Prelude.{◌++◌, ℕ, List, codes, decimal}
use Rattle.hex.specs.Hex.{encode_lower}
use Rattle.octets.specs.Escaped.{escaped}
use Rattle.judging.specs.declared.verdicts.Verdict.{Verdict}
use Rattle.judging.specs.declared.verdicts.Verdict.TheVariants.{Accepted, TipDiffers, Violation}
use Rattle.policy_epochs.specs.Telling.{fault_text}
use Rattle.entry_rules.specs.declared.faults.Fault.{Fault}
use Rattle.entry_rules.specs.declared.faults.Fault.TheVariants.{Broken, NoPolicy, NotEpoch, PathRule, RefRule}

-- a rule, how many of its persons signed, and how many must
abbrev pub rule_words : List ℕ → ℕ → ℕ → List ℕ
rule_words rule got need = rule ++ codes " " ++ decimal got ++ codes " of " ++ decimal need

-- a fault; a path is one printable word
unfoldable pub fault_words : Fault → List ℕ
fault_words NoPolicy = codes "no-policy"
fault_words (Broken id) = codes "broken " ++ encode_lower id
fault_words (RefRule rule got need) = codes "ref-rule " ++ rule_words rule got need
fault_words (PathRule path rule got need) = codes "path-rule " ++ escaped path ++ codes " " ++ rule_words rule got need
fault_words (NotEpoch why) = codes "not-epoch " ++ fault_text why

unfoldable pub line : List ℕ → Verdict Fault → List ℕ
line name (Accepted count) = codes "accepted " ++ name ++ codes " " ++ decimal count ++ codes " entries\n"
line name (TipDiffers kept recorded) = codes "tip-differs " ++ name ++ codes " kept " ++ encode_lower kept
    ++ codes " recorded " ++ encode_lower recorded ++ codes "\n"
line name (Violation number fault) = codes "violation " ++ name ++ codes " " ++ decimal number ++ codes " "
    ++ fault_words fault ++ codes "\n"
