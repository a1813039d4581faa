use Rattle.std.proofs.Common.{rules, ◌∙◌}
use Rattle.dsse_envelope.proofs.Counted.{count_more, ids_more, signature_read}
use Rattle.dsse_envelope.proofs.reading.signatures_in.Goals as goal

pub values-preserved : goal.values-preserved
values-preserved c = (
  signature_read c.values.signatures c.push.new.self c.in-Ok.signature c.args.values.now c.values.value-index c.value-item.result (search rules) c.value-item.is c.in-Ok.ensures.ok (search rules) ∙ c.values.invariant.0,
  count_more c.values.signatures c.push.new.self c.in-Ok.signature c.values.value-index (search rules) c.values.invariant.1,
  ids_more c.values.signatures c.push.new.self c.in-Ok.signature (search rules) c.in-Ok.ensures.id c.values.invariant.2,
)
