use Rattle.policy_reading.specs.Signed.{signed_root}
use Rattle.policy_reading.proofs.TextsRead.{nothing_read, text_read}
use Rattle.policy_reading.proofs.loaded_files.load_root.Goals as goal

pub returns-in_default-clause-read : goal.returns-in_default-clause-read
returns-in_default-clause-read g c = λ r told. nothing_read signed_root r c.args.id.now c.in_ok-object.field-0 (c.in_ok-object.ensures.read r told) c.in_default.is

pub returns-clause-read : goal.returns-clause-read
returns-clause-read g c = λ r told.
    text_read signed_root r c.args.id.now c.in_ok-object.field-0 (c.in_ok-object.ensures.read r told) c.in-Some.object c.body.result.now c.in_ok-root.root c.in-Some.is c.body.ensures c.in_ok-root.ensures
