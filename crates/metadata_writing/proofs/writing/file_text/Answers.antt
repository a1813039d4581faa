use Rattle.std.proofs.Common.{◌∙◌, ap}
use Rattle.serde_json.specs.Written.{compact_text, has_float}
use Rattle.metadata_writing.proofs.Floatless.{of_file}
use Rattle.metadata_writing.proofs.writing.file_text.Goals as goal

pub returns-in-Ok-write-clause-exact : goal.returns-in-Ok-write-clause-exact
returns-in-Ok-write-clause-exact c = c.in-Ok-write.ensures.exact (ap has_float c.in-Ok.ensures.written ∙ of_file c.args.file.now) ∙ ap compact_text c.in-Ok.ensures.written
