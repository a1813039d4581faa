use Rattle.std.proofs.Common.{◌≡◌, sym, subst}
use Rattle.std.specs.Prelude.{OnOk, Option}
use Rattle.lms_keys.specs.declared.lms_type.LmsType.{LmsType}
use Rattle.lms_keys.specs.HssSecret.{public_bytes}
use Rattle.commands_keys.specs.KeyLines.{key_line}
use Rattle.commands_keys.specs.MakingKeys.{secret_of}
use Rattle.commands_keys.proofs.making_keys.make.Goals as goal

pub returns-in-Some-clause-told : goal.returns-in-Some-clause-told
returns-in-Some-clause-told g c =
    subst (λ (b : Option LmsType). OnOk c.make_two.result (c.make_two.new.line.items ≡ key_line (public_bytes (secret_of c.args.lms c.args.ots b c.args.i c.args.seed)))) (sym c.in-Some.is)
    c.make_two.ensures.told
