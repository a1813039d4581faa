use Rattle.std.proofs.Common.{rules, ◌≡◌, length, arith}
use Rattle.leaf_journal.proofs.Reading.{begins_long, begins_short}
use Rattle.leaf_journal.proofs.loading.read_front.Goals as goal

pub returns-in_ok-read-clause-front : goal.returns-in_ok-read-clause-front
returns-in_ok-read-clause-front g c = λ file told.
    let size : length file ≡ c.args.len = c.requires.size file (c.in_ok-read.ensures.kept.same file told) in
    let long : length c.read.new.out ≡ 64 = search rules in
    begins_short c.read.new.out _ file _ long (c.in_ok-read.ensures.bytes file told) (omega (arith, size, c.if-len-lt72.true))

pub returns-in_ok-read-2-clause-front : goal.returns-in_ok-read-2-clause-front
returns-in_ok-read-2-clause-front g c = λ file told.
    let long : length c.read-else-len-lt72.new.out ≡ 72 = search rules in
    begins_long c.read-else-len-lt72.new.out file _ long (c.in_ok-read-2.ensures.bytes file told)
