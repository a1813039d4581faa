-- What filling and judging count.
use Rattle.std.proofs.Common.{◌≡◌, refl}
use Rattle.std.specs.Prelude.{None, Ok}
use Rattle.worlds.specs.Endings.{part_of}
use Rattle.judging.specs.declared.verdicts.Verdict.{Verdict}
use Rattle.judging.specs.declared.verdicts.Verdict.TheVariants.{Accepted, TipDiffers, Violation}
use Rattle.entry_rules.specs.declared.faults.Fault.{Fault}
use Rattle.demo.specs.Demos.{demo_ending}

-- a verdict is no fault
pub verdict_quiet : (verdict : Verdict Fault) → part_of (demo_ending (Ok verdict)) ≡ None
verdict_quiet (Accepted count) = refl
verdict_quiet (TipDiffers kept recorded) = refl
verdict_quiet (Violation number fault) = refl
