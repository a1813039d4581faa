use Rattle.json_fields.proofs.Written.{all_more, item_has, values_more}
use Rattle.std.proofs.Common.{rules, ap, map, ◌∙◌}
use Rattle.std.proofs.lemmas.List.{take_all}
use Rattle.serde_json.specs.Data.{array}
use Rattle.serde_json.specs.View.{items_of}
use Rattle.dsse_envelope.specs.Written.{HasTextId, ReadsBack, signature_data}
use Rattle.dsse_envelope.proofs.writing.signatures_value.Goals as goal

pub signature_value-requires : goal.signature_value-requires
signature_value-requires c = item_has HasTextId c.args.signatures.now c.loop-signature.signature-index c.signature-item.result c.requires c.loop-signature-test.true c.signature-item.is

pub loop-signature-preserved : goal.loop-signature-preserved
loop-signature-preserved c = (
  values_more signature_data c.loop-signature.values.items c.push.new.self.items c.in_ok-value.value c.args.signatures.now c.loop-signature.signature-index c.signature-item.result
      c.loop-signature-test.true c.signature-item.is c.in_ok-value.ensures.data (search rules) c.loop-signature.invariant.0,
  all_more ReadsBack c.args.signatures.now c.loop-signature.signature-index c.signature-item.result c.loop-signature-test.true c.signature-item.is c.in_ok-value.ensures.reads_back c.loop-signature.invariant.1,
)

pub returns-clause-data : goal.returns-clause-data
returns-clause-data c = let e = take_all c.loop-signature.signature-index c.args.signatures.now c.loop-signature-test.false in c.from.ensures ∙ ap (λ ds. array (items_of ds)) (c.loop-signature.invariant.0 ∙ ap (map signature_data) e)
