use Rattle.std.proofs.Common.{◌≡◌, ◌≤◌, ◌+◌, ◌^◌, ℕ, length, inr, sym, ap, arith}
use Rattle.lms_keys.specs.LmsType.{height}
use Rattle.lms_keys.specs.HssSecret.{height_below}
use Rattle.leaf_journal.specs.KeyFile.{IsHeader, start_of}
use Rattle.leaf_journal.specs.Loading.{secret_with}
use Rattle.leaf_journal.specs.declared.headers.Header.{Header}
use Rattle.leaf_journal.proofs.Reading.{header_is, no_below, no_top, too_tall}
use Rattle.leaf_journal.proofs.headers.read_header.Goals as goal

pub returns-in_default-clause-why : goal.returns-in_default-clause-why
returns-in_default-clause-why c = λ file size begins. no_top c.args.head.now file begins c.in_default.ensures.none (omega (arith, size, c.requires))

pub returns-in_default-below_in-clause-why : goal.returns-in_default-below_in-clause-why
returns-in_default-below_in-clause-why c = λ file size begins.
    no_below c.args.head.now file begins c.in-Some.top.two (record { lms = c.in-Some.top.lms; ots = c.in-Some.top.ots; i = c.read_top.new.i; seed = c.read_top.new.seed }) c.in-Some.ensures.found
    (λ below magic long has. c.in_default-below_in.ensures.none below magic (omega (arith, long, size)) has) (omega (arith, size, c.requires))

pub returns-then-height-gt15-clause-why : goal.returns-then-height-gt15-clause-why
returns-then-height-gt15-clause-why c = λ file size begins.
    let header : Header = record { lms = c.in-Some.top.lms; ots = c.in-Some.top.ots; below = c.in-Some-below_in.below } in
    let long : start_of header.below ≤ length file = omega (arith, size, c.in-Some-below_in.ensures.long) in
    too_tall c.args.head.now file begins c.in-Some.top.two header c.read_top.new.i c.read_top.new.seed c.in-Some.ensures.found c.in-Some-below_in.ensures.magic long
    c.in-Some-below_in.ensures.found (omega (arith, c.if-height-gt15.true, c.height.ensures)) (omega (arith, size, c.requires))

pub returns-then-len-start-clause-why : goal.returns-then-len-start-clause-why
returns-then-len-start-clause-why c = λ file size begins.
    let header : Header = record { lms = c.in-Some.top.lms; ots = c.in-Some.top.ots; below = c.in-Some-below_in.below } in
    let long : start_of header.below ≤ length file = omega (arith, size, c.in-Some-below_in.ensures.long) in
    let is : IsHeader file (secret_with header c.read_top.new.i c.read_top.new.seed) =
    header_is c.args.head.now file begins c.in-Some.top.two header c.read_top.new.i c.read_top.new.seed c.in-Some.ensures.found c.in-Some-below_in.ensures.magic long
    c.in-Some-below_in.ensures.found (omega (arith, c.if-height-gt15.false, c.height.ensures)) in
    let pow : 2 ^ c.height-2.result ≡ 2 ^ (height header.lms + height_below header.below) = ap (λ (n : ℕ). 2 ^ n) c.height-2.ensures in (
      sym size,
      inr (record {
        secret = secret_with header c.read_top.new.i c.read_top.new.seed;
        header = is;
        other = λ same. c.if-len-start.true (omega (arith, size, same, c.start.ensures.begins, c.leaves_of.ensures, pow));
      }),
    )

pub returns-clause-found : goal.returns-clause-found
returns-clause-found c = λ file size begins.
    let header : Header = record { lms = c.in-Some.top.lms; ots = c.in-Some.top.ots; below = c.in-Some-below_in.below } in
    let long : start_of header.below ≤ length file = omega (arith, size, c.in-Some-below_in.ensures.long) in
    let is : IsHeader file (secret_with header c.read_top.new.i c.read_top.new.seed) =
    header_is c.args.head.now file begins c.in-Some.top.two header c.read_top.new.i c.read_top.new.seed c.in-Some.ensures.found c.in-Some-below_in.ensures.magic long
    c.in-Some-below_in.ensures.found (omega (arith, c.if-height-gt15.false, c.height.ensures)) in
    let pow : 2 ^ c.height-2.result ≡ 2 ^ (height header.lms + height_below header.below) = ap (λ (n : ℕ). 2 ^ n) c.height-2.ensures in
    record { header = is; size = omega (arith, size, c.if-len-start.false, c.start.ensures.begins, c.leaves_of.ensures, pow) }
