-- The line that tells the verdict on a reference by global rules.
use Rattle.std.specs.Prelude.{◌++◌, ℕ, List, codes, decimal}
use Rattle.octets.specs.Escaped.{escaped}
use Rattle.global_rules.specs.declared.whys.GlobalWhy.{GlobalWhy}
use Rattle.global_rules.specs.declared.whys.GlobalWhy.TheVariants.{BadFile, Rewound, Threshold, TooFar}
use Rattle.global_verdicts.specs.declared.verdicts.GlobalVerdict.{GlobalVerdict}
use Rattle.global_verdicts.specs.declared.verdicts.GlobalVerdict.TheVariants.{Kept, Violation}

-- why; a name is one printable word
unfoldable pub why_words : GlobalWhy → List ℕ
why_words BadFile = codes "bad-file"
why_words (Threshold rule name got need) = codes "threshold " ++ rule ++ codes " " ++ escaped name ++ codes " "
    ++ decimal got ++ codes " of " ++ decimal need
why_words (Rewound rule) = codes "rewound " ++ rule
why_words (TooFar rule) = codes "too-far " ++ rule

unfoldable pub global_line : List ℕ → GlobalVerdict → List ℕ
global_line name (Kept count) = codes "global-kept " ++ name ++ codes " " ++ decimal count ++ codes " entries\n"
global_line name (Violation number why) = codes "global-violation " ++ name ++ codes " " ++ decimal number ++ codes " "
    ++ why_words why ++ codes "\n"
