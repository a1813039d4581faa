use Rattle.std.proofs.Common.{◌≡◌, ◌∙◌, ℕ, List, length, drop, ap, arith}
use Rattle.std.proofs.lemmas.List.{length-drop, length-take, take_all, take_at}
use Rattle.leaf_journal.proofs.loading.read_marks.Goals as goal

pub returns-clause-marks : goal.returns-clause-marks
returns-clause-marks g c = λ file told.
    let size = c.requires.size file (c.in_ok-read.ensures.kept.same file told) in
    let read = c.in_ok-read.ensures.bytes file told in
    let many : length c.as_mut_slice.result.now ≡ c.args.leaves = omega (arith, c.as_mut_slice.ensures.len, c.in_ok-marks.ensures.len) in
    let long : length c.read.new.out ≡ c.args.leaves =
    ap (λ (l : List ℕ). length l) read ∙ omega (arith, length-take (length c.as_mut_slice.result.now) (drop c.args.start file), length-drop c.args.start file, size, many) in
    take_at c.read.new.out _ c.in_ok-marks.marks.len (omega (arith, long, c.in_ok-marks.ensures.len)) ∙ read
    ∙ take_all (length c.as_mut_slice.result.now) (drop c.args.start file) (omega (arith, length-drop c.args.start file, size, many))
