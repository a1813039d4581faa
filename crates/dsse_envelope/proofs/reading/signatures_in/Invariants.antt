use Rattle.std.proofs.Common.{◌≡◌, All, drop, length}
use Rattle.serde_json.specs.View.{items_view}
use Rattle.dsse_envelope.specs.Envelopes.{after, signatures_of}
use Rattle.dsse_envelope.specs.Written.{HasTextId}
use Rattle.dsse_envelope.proofs.reading.signatures_in.Given as goal

abbrev pub invariant-values : goal.invariant-values
invariant-values l = (after l.signatures (signatures_of (items_view (drop l.value-index l.values))) ≡ signatures_of (items_view l.values)) × (length l.signatures ≡ l.value-index) × All HasTextId l.signatures
