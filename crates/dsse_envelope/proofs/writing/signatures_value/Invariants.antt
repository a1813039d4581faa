use Rattle.std.proofs.Common.{◌≡◌, All, map, take}
use Rattle.serde_json.specs.View.{view}
use Rattle.dsse_envelope.specs.Written.{ReadsBack, signature_data}
use Rattle.dsse_envelope.proofs.writing.signatures_value.Given as goal

abbrev pub invariant-loop-signature : goal.invariant-loop-signature
invariant-loop-signature l = (map view l.values.items ≡ map signature_data (take l.signature-index l.signatures)) × All ReadsBack (take l.signature-index l.signatures)
