use Rattle.std.proofs.Common.{inl, sym, ◌∙◌}
use Rattle.ref_patterns.proofs.Passed.{found}
use Rattle.ref_patterns.proofs.globs.find.Goals as goal

pub returns-then-not-is_stuck : goal.returns-then-not-is_stuck
returns-then-not-is_stuck c =
    found c.args.rest.now c.args.text.now c.places.left.now c.pass_bytes-passed.result c.places.invariant.same c.pass_bytes-passed.ensures (inl (sym c.is_stuck.ensures ∙ c.if-not-is_stuck.true))
