use Rattle.std.proofs.Common.{rules, ◌≡◌, length}
use Rattle.lms_keys.specs.HssSecret.{signature}
use Rattle.lms_keys.proofs.Both.{good, has_leaves}
use Rattle.lms_keys.proofs.signing_key.SigningKey.sign_at.Goals as goal

pub returns-in-Some-clause-good : goal.returns-in-Some-clause-good
returns-in-Some-clause-good c =
    let bytes : c.sign_below.new.out ≡ signature c.args.self.now c.args.leaf c.args.message.now = search rules in
    let wide : length c.args.self.now.top.i ≡ 16 = search rules in
    rw bytes (good c.args.self.now c.args.leaf c.args.message.now wide c.requires.leaf)

pub returns-in-Some-clause-leaves : goal.returns-in-Some-clause-leaves
returns-in-Some-clause-leaves c =
    let bytes : c.sign_below.new.out ≡ signature c.args.self.now c.args.leaf c.args.message.now = search rules in
    rw bytes (has_leaves c.args.self.now c.args.leaf c.args.message.now c.requires.leaf)
