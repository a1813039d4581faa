use Rattle.std.proofs.Common.{◌≡◌, ◌∙◌, ◌++◌, ◌∷◌, [], ap, List, ℕ}
use Rattle.hex.specs.Hex.{encode_lower}
use Rattle.git_object.specs.Objects.{Pair}
use Rattle.git_object.specs.declared.kinds.Kind.TheVariants as kind
use Rattle.dsse_envelope.specs.Authentication.{pae}
use Rattle.dsse_envelope.specs.Written.{text_of}
use Rattle.demo.specs.Keys.{demo_key, key_id, signed_by}
use Rattle.demo.specs.Policies.{payload_type, seal_of}
use Rattle.demo.proofs.policies.policy_file.Goals as goal

of_body : List ℕ → Pair
of_body body = record { kind = kind.Blob; body = body }

pub returns-clause-file : goal.returns-clause-file
unfolding of_body
returns-clause-file c =
    let message : c.as_slice-2.result.now ≡ pae payload_type c.args.payload = c.as_slice-2.ensures ∙ c.in_ok-message.ensures ∙ (λ j. pae (c.as_bytes.ensures.value j) (c.as_slice.ensures j)) in
    let keyid : c.in_ok-keyid.keyid ≡ encode_lower (key_id 0) = c.in_ok-keyid.ensures.text ∙ ap encode_lower c.id_of.ensures in
    let sig : c.in_ok-sig.sig ≡ signed_by (demo_key 0) c.args.keys.now.zeroth (pae payload_type c.args.payload) =
    c.in_ok-sig.ensures.signed ∙ ap (signed_by (demo_key 0) c.args.keys.now.zeroth) message in
    let signatures : c.push.new.self ≡ seal_of 0 c.args.keys.now.zeroth c.args.payload ∷ [] =
    c.in_ok-push.ensures.added ∙ (λ j. (c.new-signatures.ensures j) ++ record { keyid = keyid j; sig = sig j } ∷ []) in
    let kind_of : c.in_ok-payload_type.payload_type ≡ payload_type = c.in_ok-payload_type.ensures ∙ c.as_bytes-2.ensures.value in
    c.in_ok-file.ensures ∙ ap of_body (c.in_ok-text.ensures.exact ∙ (λ j. text_of (record { payload_type = kind_of j; payload = c.args.payload; signatures = signatures j })))
