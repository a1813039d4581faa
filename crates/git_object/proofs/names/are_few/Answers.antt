use Rattle.std.proofs.Common.{ℕ, ◌==◌, arith}
use Rattle.std.proofs.lemmas.Bool.{ltb-true, lt-ltb}
use Rattle.std.proofs.lemmas.List.Splits.{length-slice_split}
use Rattle.git_object.proofs.names.are_few.Goals as goal

pub returns : goal.returns
returns c =
    let parts = length-slice_split (λ (b : ℕ). b == 47) c.args.text.now in (
      λ is. let less = ltb-true c.slashes.result 16 is in omega (arith, c.slashes.ensures),
      λ few. lt-ltb c.slashes.result 16 (omega (arith, c.slashes.ensures)),
    )
