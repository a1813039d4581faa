use Rattle.std.proofs.Common.{ap, ◌∙◌}
use Rattle.policy_reading.specs.Signed.{signed_file}
use Rattle.policy_reading.proofs.TextsRead.{named_as, nothing_read, text_read}
use Rattle.policy_reading.proofs.loaded_files.load_file.Goals as goal

pub returns-in_default-clause-read : goal.returns-in_default-clause-read
returns-in_default-clause-read g c = λ r told. nothing_read (signed_file c.args.at.now.stem) r c.args.at.now.id c.in_ok-object.field-0 (c.in_ok-object.ensures.read r told) c.in_default.is

pub returns-clause-read : goal.returns-clause-read
returns-clause-read g c = λ r told.
    text_read (signed_file c.args.at.now.stem) r c.args.at.now.id c.in_ok-object.field-0 (c.in_ok-object.ensures.read r told) c.in-Some.object c.body.result.now c.in_ok-file.file c.in-Some.is c.body.ensures
    (c.in_ok-file.ensures.read ∙ ap (λ stem. signed_file stem c.body.result.now) c.as_slice.ensures)

pub returns-clause-named : goal.returns-clause-named
returns-clause-named g c = named_as (λ signed. signed.file.name) c.in_ok-file.file c.as_slice.result.now c.args.at.now.stem c.as_slice.ensures c.in_ok-file.ensures.named
