use Rattle.std.proofs.Common.{◌≡◌, ◌∙◌, List, ℕ, ap, length, sym, arith}
use Rattle.text_reader.proofs.Unique.{same_until}
use Rattle.object_making.proofs.rows.split_path.Goals as goal

pub returns-then-path-gt-LONGEST_PATH-clause-none : goal.returns-then-path-gt-LONGEST_PATH-clause-none
returns-then-path-gt-LONGEST_PATH-clause-none c = λ path more line short same.
    let parts = same_until 10 c.in-Some.path.now path c.in-Some.rest.now more c.in-Some.ensures.first line (sym c.in-Some.ensures.found ∙ same) in
    let long : length c.in-Some.path.now ≡ length path = ap (λ (p : List ℕ). length p) parts.0 in
    omega (arith, long, short)
