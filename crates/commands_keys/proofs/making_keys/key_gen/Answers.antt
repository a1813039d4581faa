use Rattle.std.proofs.Common.{◌≡◌, ◌∙◌, ap, refl, subst}
use Rattle.octets.specs.Content.{GainsPart, with_end}
use Rattle.lms_keys.specs.HssSecret.{Secret, public_bytes}
use Rattle.commands_keys.specs.KeyLines.{key_line}
use Rattle.commands_keys.specs.MakingKeys.{IsMade, secret_of}
use Rattle.commands_keys.proofs.making_keys.key_gen.Goals as goal

pub returns-in-Ok-write_all-clause-ends : goal.returns-in-Ok-write_all-clause-ends
returns-in-Ok-write_all-clause-ends g c =
    let key : Secret = secret_of c.args.lms c.args.ots c.args.bottom c.draw.new.i c.draw.new.seed in
    let line : c.as_slice.result.now ≡ key_line (public_bytes key) = c.as_slice.ensures.value ∙ c.in-Ok-make.ensures.told in
    let made : IsMade g.D.Disk c.args.lms c.args.ots c.args.bottom (g.E.Entropy.left c.args.entropy.now) (g.E.Entropy.left c.draw.new.entropy) c.args.disk.now c.make.new.disk key = record {
      i = c.draw.new.i;
      seed = c.draw.new.seed;
      is = refl;
      draws = record { i_long = c.draw.array_long; seed_long = c.draw.array_long2; drawn = c.in-Ok-draw.ensures.drawn };
      filed = c.in-Ok-make.ensures.filed;
    } in
    (key, made, c.in-Ok-write_all.ensures.whole ∙ ap (with_end (g.K.Sink.contents c.args.sink.now)) line)

pub returns-clause-ends : goal.returns-clause-ends
returns-clause-ends g c =
    let key : Secret = secret_of c.args.lms c.args.ots c.args.bottom c.draw.new.i c.draw.new.seed in
    let line : c.as_slice.result.now ≡ key_line (public_bytes key) = c.as_slice.ensures.value ∙ c.in-Ok-make.ensures.told in
    let made : IsMade g.D.Disk c.args.lms c.args.ots c.args.bottom (g.E.Entropy.left c.args.entropy.now) (g.E.Entropy.left c.draw.new.entropy) c.args.disk.now c.make.new.disk key = record {
      i = c.draw.new.i;
      seed = c.draw.new.seed;
      is = refl;
      draws = record { i_long = c.draw.array_long; seed_long = c.draw.array_long2; drawn = c.in-Ok-draw.ensures.drawn };
      filed = c.in-Ok-make.ensures.filed;
    } in
    (key, made, subst (GainsPart (g.K.Sink.contents c.args.sink.now) (g.K.Sink.contents c.write_all.new.sink)) line c.in-Err-write_all.ensures.part)
