use Rattle.std.proofs.Common.{refl, inl, ap}
use Rattle.std.specs.Prelude.{Err}
use Rattle.gittuf_cli.proofs.running.obey.Goals as goal

pub returns-in-Err-Outside-clause-ends : goal.returns-in-Err-Outside-clause-ends
returns-in-Err-Outside-clause-ends g c = inl (record { why = inl (refl, c.in-Err-Outside.ensures.outside (ap Err c.in-Err-Outside.field-0-is)); untouched = refl })
