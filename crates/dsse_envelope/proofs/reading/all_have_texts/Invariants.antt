use Rattle.std.proofs.Common.{◌≡◌, drop}
use Rattle.serde_json.specs.View.{items_view}
use Rattle.dsse_envelope.specs.Envelopes.{have_texts}
use Rattle.dsse_envelope.proofs.reading.all_have_texts.Given as goal

abbrev pub invariant-values : goal.invariant-values
invariant-values l = have_texts (items_view (drop l.value-index l.values)) ≡ have_texts (items_view l.values)
