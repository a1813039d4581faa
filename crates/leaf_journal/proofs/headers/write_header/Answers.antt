use Rattle.std.proofs.Common.{◌≤◌, ◌+◌, ◌++◌, sym, subst}
use Rattle.std.specs.Prelude.{Option, Some}
use Rattle.lms_keys.specs.LmsType.{height}
use Rattle.lms_keys.specs.Secret as one
use Rattle.lms_keys.specs.HssSecret.{height_below}
use Rattle.lms_keys.specs.declared.below.Below.{Below}
use Rattle.leaf_journal.specs.KeyFile.{IsHeader}
use Rattle.leaf_journal.proofs.HeaderParts.{header_of_two}
use Rattle.leaf_journal.proofs.headers.write_header.Goals as goal

pub returns-in-Some-clause-header : goal.returns-in-Some-clause-header
returns-in-Some-clause-header c =
    let top : one.Secret = record { lms = c.args.header.now.lms; ots = c.args.header.now.ots; i = c.args.i.now; seed = c.args.seed.now } in
    let low : height c.args.header.now.lms + height_below (Some c.in-Some.below) ≤ 15 =
    subst (λ (b : Option Below). height c.args.header.now.lms + height_below b ≤ 15) c.in-Some.is c.requires.low in
    subst (λ (b : Option Below). IsHeader (c.write_top-in-Some.new.out ++ c.write_below.new.out) (record { top = top; below = b })) (sym c.in-Some.is)
    (header_of_two top c.in-Some.below c.write_top-in-Some.new.out c.write_below.new.out c.write_top-in-Some.ensures.top c.write_top-in-Some.ensures.long c.write_below.ensures.long
    c.write_below.ensures.lms c.write_below.ensures.ots low)
